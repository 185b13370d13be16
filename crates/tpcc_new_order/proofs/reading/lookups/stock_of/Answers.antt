use Rattle.std.proofs.Common.{◌∙◌, sym}
use Rattle.std.specs.Prelude.{unwrap_or}
use Rattle.tpcc_rows.specs.Ranges.{is_stock_row}
use Rattle.tpcc_rows.specs.Tables.{no_stock}
use Rattle.tpcc_new_order.proofs.OrderLines.{stock_in_range}
use Rattle.tpcc_new_order.proofs.Refusal.{copy_is_some}
use Rattle.tpcc_new_order.proofs.reading.lookups.stock_of.Goals as goal

pub returns-clause-range : goal.returns-clause-range
returns-clause-range c =
    (λ i. is_stock_row (unwrap_or (sym (copy_is_some _ _ c.unwrap.result c.stock.ensures c.unwrap.ensures) i) no_stock)) ∙ stock_in_range c.args.tables.now.rows c.args.line.now c.well_keyed.ensures.ranges c.requires.line
