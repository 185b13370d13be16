use Rattle.std.proofs.Common.{rules}
use Rattle.tpcc_new_order.proofs.reading.ranges.is_far.Goals as goal

pub returns-then-stock-2 : goal.returns-then-stock-2
returns-then-stock-2 c = search rules

pub returns-else-stock-2 : goal.returns-else-stock-2
returns-else-stock-2 c = search rules
