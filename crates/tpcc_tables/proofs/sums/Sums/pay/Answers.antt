use Rattle.std.proofs.Common.{rules}
use Rattle.tpcc_tables.proofs.sums.Sums.pay.Goals as goal

pub returns : goal.returns
returns c = search rules
