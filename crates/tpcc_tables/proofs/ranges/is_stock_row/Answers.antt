use Rattle.std.proofs.Common.{rules}
use Rattle.tpcc_rows.specs.Ranges.{is_stock_row}
use Rattle.tpcc_tables.proofs.ranges.is_stock_row.Goals as goal

pub returns-then-is_count-2 : goal.returns-then-is_count-2
unfolding is_stock_row
returns-then-is_count-2 c = search rules

pub returns-else-is_count-2 : goal.returns-else-is_count-2
unfolding is_stock_row
returns-else-is_count-2 c = search rules
