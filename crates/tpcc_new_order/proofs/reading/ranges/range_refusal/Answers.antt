use Rattle.std.proofs.Common.{◌∙◌, ap, map, List}
use Rattle.tpcc_rows.specs.declared.transactions.requests.Line.{Line}
use Rattle.tpcc_rows.specs.Lists.{first_finding}
use Rattle.tpcc_rows.specs.Tables.{stock_at}
use Rattle.tpcc_rows.specs.NewOrder.{order_number, stock_after}
use Rattle.tpcc_new_order.specs.Internal.Tests.{overruns_of, range_tests}
use Rattle.tpcc_new_order.proofs.Refusal.{by_ranges}
use Rattle.tpcc_new_order.proofs.reading.ranges.range_refusal.Goals as goal

pub returns : goal.returns
returns c =
    let rows = c.args.tables.now.rows in
    let home = c.args.order.now.warehouse in
    c.first_overrun.ensures
    ∙ (λ i. first_finding (range_tests (c.requires.number i) (c.overruns_after-over.ensures i)))
    ∙ ap (λ (ls : List Line). first_finding (range_tests (order_number rows c.args.order.now) (overruns_of (map (λ (l : Line). stock_after home ls (stock_at rows l.supply l.item)) ls)))) c.as_slice.ensures.lines
    ∙ by_ranges rows c.args.order.now
