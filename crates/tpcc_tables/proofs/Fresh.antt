-- The key of a row that can be loaded is no other row's.
use Rattle.std.proofs.Common.{◌≡◌, Bool, true, false, List, refl, ◌∙◌, Option, Some, None}
use Rattle.std.specs.Prelude.{find, is_some}
use Rattle.tpcc_rows.specs.declared.tables.rows.WarehouseRow.{WarehouseRow}
use Rattle.tpcc_rows.specs.declared.tables.rows.DistrictRow.{DistrictRow}
use Rattle.tpcc_rows.specs.declared.tables.rows.CustomerRow.{CustomerRow}
use Rattle.tpcc_rows.specs.declared.tables.rows.ItemRow.{ItemRow}
use Rattle.tpcc_rows.specs.declared.tables.rows.StockRow.{StockRow}
use Rattle.tpcc_rows.specs.Ranges.{is_warehouse_row, is_district_row, is_customer_row, is_item_row, is_stock_row}
use Rattle.tpcc_rows.specs.Tables.{Rows, warehouse_key, district_key, customer_key, item_key, stock_key, is_warehouse, is_district, is_customer, is_item, is_stock, find_warehouse, find_district, find_customer, find_item, find_stock}
use Rattle.tpcc_rows.specs.WellKeyed.{has_warehouse, has_district, has_warehouse_and_item}
use Rattle.tpcc_storage.proofs.Halves.{is_it, same_find}
use Rattle.tpcc_tables.specs.Loads.{warehouse_fault, district_fault, customer_fault, item_fault, stock_fault}
use Rattle.tpcc_tables.proofs.KeyTests.{warehouse_test, district_test, customer_test, item_test, stock_test}
use Rattle.tpcc_tables.proofs.Load.{fault_none}

is_none : {X : Type 0} (found : Option X) → is_some found ≡ false → found ≡ None
is_none None e = refl
is_none (Some x) e = cc

none_found : {X : Type 0} (p q : X → Bool) → ((x : X) → p x ≡ q x) → (xs : List X) → is_some (find q xs) ≡ false → find p xs ≡ None
none_found p q same xs none = same_find p q same xs ∙ is_none (find q xs) none

module _ (rows : Rows) where
  pub fresh_warehouse : (w : WarehouseRow) → warehouse_fault rows w ≡ None → find (is_it warehouse_key (warehouse_key w)) rows.warehouses ≡ None
  fresh_warehouse w e =
      none_found (is_it warehouse_key (warehouse_key w)) (is_warehouse w.id) (warehouse_test w.id) rows.warehouses (fault_none (is_warehouse_row w) true (is_some (find_warehouse rows w.id)) e).2

  pub fresh_district : (d : DistrictRow) → district_fault rows d ≡ None → find (is_it district_key (district_key d)) rows.districts ≡ None
  fresh_district d e =
      none_found (is_it district_key (district_key d)) (is_district d.warehouse d.id) (district_test d.warehouse d.id) rows.districts (fault_none (is_district_row d) (has_warehouse rows d) (is_some (find_district rows d.warehouse d.id)) e).2

  pub fresh_customer : (c : CustomerRow) → customer_fault rows c ≡ None → find (is_it customer_key (customer_key c)) rows.customers ≡ None
  fresh_customer c e =
      none_found (is_it customer_key (customer_key c)) (is_customer c.warehouse c.district c.id) (customer_test c.warehouse c.district c.id) rows.customers (fault_none (is_customer_row c) (has_district rows c) (is_some (find_customer rows c.warehouse c.district c.id)) e).2

  pub fresh_item : (i : ItemRow) → item_fault rows i ≡ None → find (is_it item_key (item_key i)) rows.items ≡ None
  fresh_item i e =
      none_found (is_it item_key (item_key i)) (is_item i.id) (item_test i.id) rows.items (fault_none (is_item_row i) true (is_some (find_item rows i.id)) e).2

  pub fresh_stock : (s : StockRow) → stock_fault rows s ≡ None → find (is_it stock_key (stock_key s)) rows.stocks ≡ None
  fresh_stock s e =
      none_found (is_it stock_key (stock_key s)) (is_stock s.warehouse s.item) (stock_test s.warehouse s.item) rows.stocks (fault_none (is_stock_row s) (has_warehouse_and_item rows s) (is_some (find_stock rows s.warehouse s.item)) e).2
