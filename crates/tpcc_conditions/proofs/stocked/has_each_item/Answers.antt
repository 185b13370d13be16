use Rattle.std.proofs.Common.{◌≡◌, sym, ◌∙◌, arith}
use Rattle.std.specs.Prelude.{is_some}
use Rattle.tpcc_rows.specs.declared.tables.rows.ItemRow.{ItemRow}
use Rattle.tpcc_rows.specs.Tables.{find_stock}
use Rattle.tpcc_conditions.proofs.StockedRows.{some_fails, all_more, all_items}
use Rattle.tpcc_conditions.proofs.stocked.has_each_item.Goals as goal

pub returns-then-not-has_item : goal.returns-then-not-has_item
returns-then-not-has_item c =
    let rows = c.args.tables.now.rows in
    sym (some_fails (λ (i : ItemRow). is_some (find_stock rows c.args.warehouse i.id)) rows.items c.loop-position.position (sym c.has_item.ensures ∙ c.if-not-has_item.true))

pub loop-position-preserved : goal.loop-position-preserved
loop-position-preserved c =
    let rows = c.args.tables.now.rows in
    all_more (λ (i : ItemRow). is_some (find_stock rows c.args.warehouse i.id)) rows.items c.loop-position.position c.loop-position.invariant (sym c.has_item.ensures ∙ c.if-not-has_item.false)

pub returns : goal.returns
returns c =
    let rows = c.args.tables.now.rows in
    let at : c.loop-position.position ≡ c.count-position-end.result = omega arith in
    sym (all_items rows (λ i. is_some (find_stock rows c.args.warehouse i.id)) c.loop-position.position (at ∙ c.count-position-end.ensures) c.loop-position.invariant)
