use Rattle.std.proofs.Common.{◌+◌, length}
use Rattle.tpcc_tables.specs.DistrictVecs.{listed}
use Rattle.tpcc_tables.proofs.SumFill.{can_grow_first, lines_most, delivered_is, next_entered}
use Rattle.tpcc_tables.proofs.SumLines.{few_of, range_of}
use Rattle.tpcc_tables.proofs.sums.fill.enter_run.Goals as goal

pub amount_where-requires-clause-few : goal.amount_where-requires-clause-few
amount_where-requires-clause-few c = few_of (listed c.args.lists.now) c.order-item.result.warehouse c.order-item.result.district c.order-item.result.id c.lines_of-lines.result.now c.requires.keyed c.lines_of-lines.ensures

pub amount_where-requires-clause-range : goal.amount_where-requires-clause-range
amount_where-requires-clause-range c = range_of (listed c.args.lists.now) c.order-item.result.warehouse c.order-item.result.district c.order-item.result.id c.lines_of-lines.result.now c.requires.keyed c.lines_of-lines.ensures

pub enter-requires-clause-room : goal.enter-requires-clause-room
enter-requires-clause-room c =
    can_grow_first c.args.lists.now (length (listed c.args.lists.now).histories) (c.args.start + c.loop-order.order-index) c.loop-order.sums c.requires.keyed c.loop-order.invariant

pub enter-requires-clause-lines : goal.enter-requires-clause-lines
enter-requires-clause-lines c =
    lines_most (listed c.args.lists.now) c.args.run.now c.args.start c.loop-order.order-index c.order-item.result c.requires.keyed c.requires.run c.loop-order-test.true c.order-item.is

pub loop-order-preserved : goal.loop-order-preserved
loop-order-preserved c =
    let rows = listed c.args.lists.now in
    next_entered rows c.args.run.now (length rows.histories) c.args.start c.loop-order.order-index c.order-item.result c.amount_where.result c.loop-order.sums c.enter.new.self
    c.requires.run c.loop-order-test.true c.order-item.is (delivered_is rows c.order-item.result c.lines_of-lines.result.now c.amount_where.result c.lines_of-lines.ensures c.amount_where.ensures.sum)
    c.loop-order.invariant c.enter.ensures
