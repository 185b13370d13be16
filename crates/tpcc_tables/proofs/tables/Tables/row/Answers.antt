use Rattle.std.proofs.Common.{◌≡◌, ℕ, ◌<◌, List, length, get_or, ap, refl, sym, Some, option_map}
use Rattle.std.specs.Prelude.{slice_get}
use Rattle.std.proofs.lemmas.Option.{slice_get_read}
use Rattle.tpcc_rows.specs.declared.tables.row.Row.{Row}
use Rattle.tpcc_rows.specs.declared.tables.row.Row.TheVariants as row
use Rattle.tpcc_tables.specs.Positions.{row_at}
use Rattle.tpcc_tables.proofs.tables.Tables.row.Goals as goal
use Rattle.tpcc_tables.proofs.tables.Tables.row.Goals.{in-Warehouse+in_ok-get-in-Warehouse, in-District+in_ok-get-in-District, in-Customer+in_ok-get-in-Customer, in-History+in_ok-get-in-History, in-Order+in_ok-get-in-Order, in-OrderLine+in_ok-get-in-OrderLine, in-NewOrder+in_ok-copy_at-in-NewOrder, in-Item+in_ok-get-in-Item, in-Stock+in_ok-get-in-Stock}

read : {X : Type 0} (wrap : X → Row) (lent xs : List X) (i : ℕ) (x : X) → lent ≡ xs → i < length lent → x ≡ get_or lent i x → Some (wrap x) ≡ option_map wrap (slice_get xs i)
read wrap lent xs i x e lt at = rw (← e) (ap (option_map wrap) (sym (slice_get_read lent (length lent) i x refl lt at)))

pub returns : goal.returns
unfolding row_at
returns c = elim c.match-table.branch [
  | in-Warehouse+in_ok-get-in-Warehouse w ↦ rw (w.result-is, w.in-Warehouse.is, ← c.self.view_is) (ap (option_map row.Warehouse) w.in_ok-get-in-Warehouse.ensures)
  | in-District+in_ok-get-in-District w ↦ rw (w.result-is, w.in-District.is, ← c.self.view_is) (ap (option_map row.District) w.in_ok-get-in-District.ensures)
  | in-Customer+in_ok-get-in-Customer w ↦ rw (w.result-is, w.in-Customer.is, ← c.self.view_is) (ap (option_map row.Customer) w.in_ok-get-in-Customer.ensures)
  | in-History+in_ok-get-in-History w ↦ rw (w.result-is, w.in-History.is, ← c.self.view_is) (read row.History w.deref.result.now c.self.inside.histories.items c.args.position w.in_ok-get-in-History.field-0.now w.deref.ensures.value w.in_ok-get-in-History.ensures.lookup.3.0 w.in_ok-get-in-History.ensures.lookup.1)
  | in-Order+in_ok-get-in-Order w ↦ rw (w.result-is, w.in-Order.is, ← c.self.view_is) (ap (option_map row.Order) w.in_ok-get-in-Order.ensures)
  | in-OrderLine+in_ok-get-in-OrderLine w ↦ rw (w.result-is, w.in-OrderLine.is, ← c.self.view_is) (ap (option_map row.OrderLine) w.in_ok-get-in-OrderLine.ensures)
  | in-NewOrder+in_ok-copy_at-in-NewOrder w ↦ rw (w.result-is, w.in-NewOrder.is, ← c.self.view_is) (ap (option_map row.NewOrder) w.in_ok-copy_at-in-NewOrder.ensures)
  | in-Item+in_ok-get-in-Item w ↦ rw (w.result-is, w.in-Item.is, ← c.self.view_is) (ap (option_map row.Item) w.in_ok-get-in-Item.ensures)
  | in-Stock+in_ok-get-in-Stock w ↦ rw (w.result-is, w.in-Stock.is, ← c.self.view_is) (ap (option_map row.Stock) w.in_ok-get-in-Stock.ensures)
]
