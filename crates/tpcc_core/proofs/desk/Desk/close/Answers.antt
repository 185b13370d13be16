use Rattle.std.proofs.Common.{rules}
use Rattle.tpcc_core.proofs.desk.Desk.close.Goals as goal

pub returns : goal.returns
returns g c = search rules
