use Rattle.std.proofs.Common.{◌∙◌, ◌+◌, sym, ap, List, arith}
use Rattle.std.specs.Prelude.{fold}
use Rattle.std.specs.List.{list_all}
use Rattle.std.proofs.lemmas.List.{take_all}
use Rattle.std.proofs.lemmas.List.Sums.{fold_more}
use Rattle.tpcc_rows.specs.declared.tables.rows.StockRow.{StockRow}
use Rattle.tpcc_rows.specs.declared.tables.rows.OrderLineRow.{OrderLineRow}
use Rattle.tpcc_rows.specs.Lists.{is_ascending}
use Rattle.tpcc_rows.specs.Tables.{stock_key}
use Rattle.tpcc_laws.proofs.Numbers.{within}
use Rattle.tpcc_laws.proofs.Remove.{found_passes}
use Rattle.tpcc_tables.specs.Writes.{line_of}
use Rattle.tpcc_tables.specs.Internal.Supplies.{is_supplied_by, is_near}
use Rattle.tpcc_tables.proofs.Supplies.{after_line, near_has_room, near_after, keyed_after, lines_in_turn, quantity_at}
use Rattle.tpcc_tables.proofs.changes.supply.supply.Goals as goal

pub supply_line-requires-clause-room : goal.supply_line-requires-clause-room
supply_line-requires-clause-room c = λ s e.
    let q = within 1 10 c.line-item.result.quantity (quantity_at c.args.lines.now c.loop-line.line-index c.line-item.result c.loop-line-test.true c.line-item.is c.requires.quantities) in
    near_has_room c.loop-line.line-index c.line-item.result.quantity s (omega (arith, c.loop-line-test.true, c.requires.few)) q.1
    (found_passes (is_supplied_by (line_of c.line-item.result)) (is_near c.loop-line.line-index) c.loop-line.rows.items s e c.loop-line.invariant.near).1

pub loop-line-preserved : goal.loop-line-preserved
loop-line-preserved c =
    let q = quantity_at c.args.lines.now c.loop-line.line-index c.line-item.result c.loop-line-test.true c.line-item.is c.requires.quantities in
    record {
      rows = c.supply_line.ensures
          ∙ (λ i. after_line c.args.home (c.loop-line.invariant.rows i) (line_of (c.line-item.is i)))
          ∙ sym (fold_more (λ (ss : List StockRow) (x : OrderLineRow). after_line c.args.home ss (line_of x)) c.args.rows.now.items c.args.lines.now c.loop-line.line-index c.line-item.result c.loop-line-test.true);
      keyed = ap (is_ascending stock_key) c.supply_line.ensures ∙ keyed_after c.args.home (line_of c.line-item.result) c.loop-line.rows.items c.loop-line.invariant.keyed;
      near = ap (list_all (is_near (c.loop-line.line-index + 1))) c.supply_line.ensures ∙ near_after c.args.home c.loop-line.line-index (line_of c.line-item.result) c.loop-line.rows.items q c.loop-line.invariant.near;
    }

pub returns : goal.returns
returns c =
    c.loop-line.invariant.rows
    ∙ ap (fold (λ (ss : List StockRow) (x : OrderLineRow). after_line c.args.home ss (line_of x)) c.args.rows.now.items) (take_all c.loop-line.line-index c.args.lines.now (omega (arith, c.loop-line-test.false)))
    ∙ lines_in_turn c.args.home c.args.lines.now c.args.rows.now.items
