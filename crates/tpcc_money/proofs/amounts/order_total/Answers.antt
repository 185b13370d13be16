use Rattle.std.proofs.Common.{rules}
use Rattle.tpcc_money.proofs.amounts.order_total.Goals as goal

pub returns : goal.returns
unfolding Rattle.tpcc_money.specs.Amounts.order_total
returns c = search rules
