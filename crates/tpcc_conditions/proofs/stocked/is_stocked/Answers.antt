use Rattle.std.proofs.Common.{◌≡◌, sym, ◌∙◌, arith}
use Rattle.tpcc_rows.specs.declared.tables.rows.WarehouseRow.{WarehouseRow}
use Rattle.tpcc_conditions.specs.Stocked.{has_items}
use Rattle.tpcc_conditions.proofs.StockedRows.{some_fails, all_more, all_warehouses}
use Rattle.tpcc_conditions.proofs.stocked.is_stocked.Goals as goal

pub returns-then-not-is_stocked_at : goal.returns-then-not-is_stocked_at
returns-then-not-is_stocked_at c =
    let rows = c.args.tables.now.rows in
    sym (some_fails (λ (w : WarehouseRow). has_items rows w.id) rows.warehouses c.loop-position.position (sym c.is_stocked_at.ensures ∙ c.if-not-is_stocked_at.true))

pub loop-position-preserved : goal.loop-position-preserved
loop-position-preserved c =
    let rows = c.args.tables.now.rows in
    all_more (λ (w : WarehouseRow). has_items rows w.id) rows.warehouses c.loop-position.position c.loop-position.invariant (sym c.is_stocked_at.ensures ∙ c.if-not-is_stocked_at.false)

pub returns : goal.returns
returns c =
    let rows = c.args.tables.now.rows in
    let at : c.loop-position.position ≡ c.count-position-end.result = omega arith in
    sym (all_warehouses rows (λ w. has_items rows w.id) c.loop-position.position (at ∙ c.count-position-end.ensures) c.loop-position.invariant)
