use Rattle.std.proofs.Common.{rules}
use Rattle.tpcc_rows.specs.Conditions.{keeps_6}
use Rattle.tpcc_conditions.proofs.keeps.lines_of_order.Goals as goal

pub returns : goal.returns
unfolding keeps_6
returns c = search rules
