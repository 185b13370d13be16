use Rattle.std.proofs.Common.{rules}
use Rattle.tpcc_script.proofs.watch.put_bytes.Goals as goal

pub returns-in-Ok-clause-same : goal.returns-in-Ok-clause-same
returns-in-Ok-clause-same g c = search rules
