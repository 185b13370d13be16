use Rattle.std.proofs.Common.{rules}
use Rattle.tpcc_rows.specs.Conditions.{keeps_11}
use Rattle.tpcc_conditions.proofs.keeps.delivered_orders.Goals as goal

pub returns : goal.returns
unfolding keeps_11
returns c = search rules
