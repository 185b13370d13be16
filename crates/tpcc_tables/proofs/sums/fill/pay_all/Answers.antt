use Rattle.std.proofs.Common.{◌∙◌, ap, length, get_or, arith}
use Rattle.tpcc_tables.specs.DistrictVecs.{listed}
use Rattle.tpcc_tables.proofs.SumFill.{can_grow_first, next_paid}
use Rattle.tpcc_tables.proofs.sums.fill.pay_all.Goals as goal

pub pay-requires : goal.pay-requires
pay-requires c = can_grow_first c.args.lists.now c.loop-history.history-index 0 c.loop-history.sums c.requires.keyed c.loop-history.invariant

pub loop-history-preserved : goal.loop-history-preserved
loop-history-preserved c =
    let rows = listed c.args.lists.now in
    next_paid rows c.loop-history.history-index c.history-item.result c.loop-history.sums c.pay.new.self
    (omega (arith, ap length c.deref-history-items.ensures.value)) (c.history-item.is ∙ ap (λ xs. get_or xs c.loop-history.history-index c.history-item.result) c.deref-history-items.ensures.value)
    c.loop-history.invariant c.pay.ensures
