use Rattle.std.proofs.Common.{rules}
use Rattle.tpcc_run.proofs.threads.operator.note.Goals as goal

pub returns-clause-noted : goal.returns-clause-noted
returns-clause-noted g c = search rules
