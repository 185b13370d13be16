use Rattle.std.proofs.Common.{rules}
use Rattle.tpcc_money.proofs.cents.Cents.value.Goals as goal

pub returns : goal.returns
returns c = search rules
