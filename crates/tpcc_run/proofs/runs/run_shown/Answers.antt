use Rattle.std.proofs.Common.{rules}
use Rattle.tpcc_run.proofs.runs.run_shown.Goals as goal

pub returns-clause-part : goal.returns-clause-part
returns-clause-part g c = search rules
