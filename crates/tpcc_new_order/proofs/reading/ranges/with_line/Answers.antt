use Rattle.std.proofs.Common.{◌∙◌, ap, sym}
use Rattle.tpcc_rows.specs.declared.tables.rows.StockRow.{StockRow}
use Rattle.tpcc_rows.specs.NewOrder.{stock_after}
use Rattle.tpcc_new_order.specs.Internal.Supplied.{numbers_of}
use Rattle.tpcc_new_order.specs.Internal.Tests.{overruns_with}
use Rattle.tpcc_new_order.proofs.OrderLines.{quantities}
use Rattle.tpcc_new_order.proofs.Supplies.{far_is_within}
use Rattle.tpcc_new_order.proofs.reading.ranges.with_line.Goals as goal

pub returns-then-is_far : goal.returns-then-is_far
returns-then-is_far c =
    let lines = c.args.lines.now in
    far_is_within c.args.home c.stock_of-stock.result.now lines c.args.over (sym c.is_far.ensures ∙ c.if-is_far.true) c.requires.servable.few (quantities c.args.tables.now.rows lines c.requires.servable.each)
    ∙ ap (λ (s : StockRow). overruns_with c.args.over (numbers_of (stock_after c.args.home lines s))) c.stock_of-stock.ensures.row

pub numbers_after-requires-clause-quantities : goal.numbers_after-requires-clause-quantities
numbers_after-requires-clause-quantities c = quantities c.args.tables.now.rows c.args.lines.now c.requires.servable.each
