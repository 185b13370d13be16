-- The entries of rows: new ones, those that a look-up finds, and keys that no row has.
use Rattle.std.proofs.Common.{◌≡◌, ℕ, true, false, List, [], ◌∷◌, refl, sym, ap, ◌∙◌, arith, Option, Some, None}
use Rattle.std.specs.Prelude.{find, map, sum_by, ◌==◌, ◌&&◌, is_some, unwrap_or}
use Rattle.std.specs.Option.{option_map}
use Rattle.std.proofs.lemmas.Bool.Decides.{nat_tests}
use Rattle.tpcc_money.specs.Amounts.{total}
use Rattle.tpcc_rows.specs.declared.tables.rows.WarehouseRow.{WarehouseRow}
use Rattle.tpcc_rows.specs.declared.tables.rows.DistrictRow.{DistrictRow}
use Rattle.tpcc_rows.specs.declared.tables.rows.CustomerRow.{CustomerRow}
use Rattle.tpcc_rows.specs.declared.tables.rows.HistoryRow.{HistoryRow}
use Rattle.tpcc_rows.specs.declared.tables.rows.OrderRow.{OrderRow}
use Rattle.tpcc_rows.specs.declared.tables.rows.OrderLineRow.{OrderLineRow}
use Rattle.tpcc_rows.specs.Lists.{inserted, by_key, largest}
use Rattle.tpcc_rows.specs.Ranges.{is_warehouse_row, is_district_row, is_customer_row, is_order_row, is_order_line_row}
use Rattle.tpcc_rows.specs.Tables.{Rows, is_warehouse, is_district, is_customer, is_order_of, is_paid_by, warehouse_key, district_key, customer_key, find_warehouse, find_district, find_customer, find_order, find_stock}
use Rattle.tpcc_rows.specs.WellKeyed.{HasParents, has_warehouse, has_district, has_payer, has_customer, has_order_and_stock}
use Rattle.tpcc_rows.specs.Conditions.{delivered_amount}
use Rattle.tpcc_rows.proofs.Booleans.{split}
use Rattle.tpcc_laws.proofs.List.{filter-none}
use Rattle.tpcc_laws.proofs.OrderKeeps.{both_equal, all_equal, by_contradiction, true_is_false}
use Rattle.tpcc_laws.proofs.DeliveryKeeps.{some_of}
use Rattle.tpcc_laws.proofs.Remove.{found_passes}
use Rattle.tpcc_storage.proofs.Change as change
use Rattle.tpcc_tables.specs.declared.sums.Sums.{Sums}
use Rattle.tpcc_tables.specs.declared.sums.entry.WarehouseSums.{WarehouseSums}
use Rattle.tpcc_tables.specs.declared.sums.entry.DistrictSums.{DistrictSums}
use Rattle.tpcc_tables.specs.declared.sums.entry.CustomerSums.{CustomerSums}
use Rattle.tpcc_tables.specs.Loads.{find_order_line, warehouse_fault, district_fault, customer_fault, order_fault, order_line_fault, is_order_in_range}
use Rattle.tpcc_tables.specs.Internal.Sums.{has_key, warehouse_sums_key, district_sums_key, customer_sums_key, no_warehouse_sums, no_district_sums, no_customer_sums, warehouse_sums, district_sums, customer_sums, AreSums}
use Rattle.tpcc_tables.proofs.KeyTests.{warehouse_test, district_test, customer_test}
use Rattle.tpcc_tables.proofs.Load.{customer_district, fault_none}
use Rattle.tpcc_tables.proofs.Sum.{find-map, map-inserted}

-- ---- nothing belongs to a key that no row has

one_equal : (a x : ℕ) → (a == x) ≡ true → a ≡ x
one_equal a x h = grind (arith, nat_tests)

-- a payment goes into a district, and so into its warehouse
district_warehouse : (rows : Rows) (w d : ℕ) → HasParents rows → is_some (find_district rows w d) ≡ true → is_some (find_warehouse rows w) ≡ true
district_warehouse rows w d parents there =
    let x = some_of (find_district rows w d) there in
    let p = found_passes (is_district w d) (has_warehouse rows) rows.districts x.0 x.1 parents.districts in
    let key = both_equal x.0.warehouse w x.0.id d p.0 in
    (λ i. is_some (find_warehouse rows (sym key.0 i))) ∙ p.1

module _ (rows : Rows) (parents : HasParents rows) where
  payer : (h : HistoryRow) → has_payer rows h ≡ true → (is_some (find_customer rows h.customer_warehouse h.customer_district h.customer) ≡ true) × (is_some (find_district rows h.warehouse h.district) ≡ true)
  payer h has = split (is_some (find_customer rows h.customer_warehouse h.customer_district h.customer)) (is_some (find_district rows h.warehouse h.district)) has

  warehouse_unpaid : (w : ℕ) → is_some (find_warehouse rows w) ≡ false → (h : HistoryRow) → has_payer rows h ≡ true → (h.warehouse == w) ≡ false
  warehouse_unpaid w none h has =
      by_contradiction (h.warehouse == w) (λ e.
      true_is_false (sym (district_warehouse rows h.warehouse h.district parents (payer h has).1) ∙ (λ i. is_some (find_warehouse rows (one_equal h.warehouse w e i))) ∙ none))

  district_unpaid : (w d : ℕ) → is_some (find_district rows w d) ≡ false → (h : HistoryRow) → has_payer rows h ≡ true → ((h.warehouse == w) && (h.district == d)) ≡ false
  district_unpaid w d none h has =
      by_contradiction ((h.warehouse == w) && (h.district == d)) (λ e.
      let same = both_equal h.warehouse w h.district d e in
      true_is_false (sym (payer h has).1 ∙ (λ i. is_some (find_district rows (same.0 i) (same.1 i))) ∙ none))

  district_unordered : (w d : ℕ) → is_some (find_district rows w d) ≡ false → (o : OrderRow) → has_customer rows o ≡ true → ((o.warehouse == w) && (o.district == d)) ≡ false
  district_unordered w d none o has =
      by_contradiction ((o.warehouse == w) && (o.district == d)) (λ e.
      let same = both_equal o.warehouse w o.district d e in
      true_is_false (sym (customer_district rows o.warehouse o.district o.customer parents has) ∙ (λ i. is_some (find_district rows (same.0 i) (same.1 i))) ∙ none))

  customer_unpaid : (w d c : ℕ) → is_some (find_customer rows w d c) ≡ false → (h : HistoryRow) → has_payer rows h ≡ true → is_paid_by w d c h ≡ false
  customer_unpaid w d c none h has =
      by_contradiction (is_paid_by w d c h) (λ e.
      let same = all_equal h.customer_warehouse w h.customer_district d h.customer c e in
      true_is_false (sym (payer h has).0 ∙ (λ i. is_some (find_customer rows (same.0 i) (same.1 i) (same.2 i))) ∙ none))

  customer_unordered : (w d c : ℕ) → is_some (find_customer rows w d c) ≡ false → (o : OrderRow) → has_customer rows o ≡ true → is_order_of w d c o ≡ false
  customer_unordered w d c none o has =
      by_contradiction (is_order_of w d c o) (λ e.
      let same = all_equal o.warehouse w o.district d o.customer c e in
      true_is_false (sym has ∙ (λ i. is_some (find_customer rows (same.0 i) (same.1 i) (same.2 i))) ∙ none))

  no_warehouse : (w : ℕ) → is_some (find_warehouse rows w) ≡ false → warehouse_sums rows w ≡ no_warehouse_sums w
  no_warehouse w none i =
      record { warehouse = w; paid = total (λ h. h.amount) (filter-none (has_payer rows) (λ h. h.warehouse == w) (warehouse_unpaid w none) rows.histories parents.histories i) }

  no_district : (w d : ℕ) → is_some (find_district rows w d) ≡ false → district_sums rows w d ≡ no_district_sums w d
  no_district w d none i =
      record {
        warehouse = w;
        district = d;
        counted_lines = sum_by (λ o. o.line_count) (filter-none (has_customer rows) (λ o. (o.warehouse == w) && (o.district == d)) (district_unordered w d none) rows.orders parents.orders i);
        paid = total (λ h. h.amount) (filter-none (has_payer rows) (λ h. (h.warehouse == w) && (h.district == d)) (district_unpaid w d none) rows.histories parents.histories i);
      }

  no_customer : (w d c : ℕ) → is_some (find_customer rows w d c) ≡ false → customer_sums rows w d c ≡ no_customer_sums w d c
  no_customer w d c none i =
      let orders = filter-none (has_customer rows) (is_order_of w d c) (customer_unordered w d c none) rows.orders parents.orders in
      record {
        warehouse = w;
        district = d;
        customer = c;
        last_order = largest (map (λ o. o.id) (orders i));
        delivered = total (delivered_amount rows) (orders i);
        paid = total (λ h. h.amount) (filter-none (has_payer rows) (is_paid_by w d c) (customer_unpaid w d c none) rows.histories parents.histories i);
      }

  -- ---- the entry that a look-up finds, or one with nothing counted

  warehouse_at : (w : ℕ) (found : Option WarehouseRow) → find_warehouse rows w ≡ found → unwrap_or (option_map (λ x. warehouse_sums rows x.id) found) (no_warehouse_sums w) ≡ warehouse_sums rows w
  warehouse_at w None e = sym (no_warehouse w (ap is_some e))
  warehouse_at w (Some x) e = let same = one_equal x.id w (change.found_passes (is_warehouse w) rows.warehouses x e) in λ i. warehouse_sums rows (same i)

  pub warehouse_found : (s : Sums) (w : ℕ) → AreSums rows s → unwrap_or (find (has_key warehouse_sums_key (w ∷ [])) s.warehouses.items) (no_warehouse_sums w) ≡ warehouse_sums rows w
  warehouse_found s w are =
      ap (λ es. unwrap_or (find (has_key warehouse_sums_key (w ∷ [])) es) (no_warehouse_sums w)) are.warehouses
      ∙ ap (λ o. unwrap_or o (no_warehouse_sums w)) (find-map (λ x. warehouse_sums rows x.id) (is_warehouse w) (has_key warehouse_sums_key (w ∷ [])) (warehouse_test w) rows.warehouses)
      ∙ warehouse_at w (find_warehouse rows w) refl

  district_at : (w d : ℕ) (found : Option DistrictRow) → find_district rows w d ≡ found → unwrap_or (option_map (λ x. district_sums rows x.warehouse x.id) found) (no_district_sums w d) ≡ district_sums rows w d
  district_at w d None e = sym (no_district w d (ap is_some e))
  district_at w d (Some x) e =
      let same = both_equal x.warehouse w x.id d (change.found_passes (is_district w d) rows.districts x e) in λ i. district_sums rows (same.0 i) (same.1 i)

  pub district_found : (s : Sums) (w d : ℕ) → AreSums rows s → unwrap_or (find (has_key district_sums_key (w ∷ d ∷ [])) s.districts.items) (no_district_sums w d) ≡ district_sums rows w d
  district_found s w d are =
      ap (λ es. unwrap_or (find (has_key district_sums_key (w ∷ d ∷ [])) es) (no_district_sums w d)) are.districts
      ∙ ap (λ o. unwrap_or o (no_district_sums w d)) (find-map (λ x. district_sums rows x.warehouse x.id) (is_district w d) (has_key district_sums_key (w ∷ d ∷ [])) (district_test w d) rows.districts)
      ∙ district_at w d (find_district rows w d) refl

  customer_at : (w d c : ℕ) (found : Option CustomerRow) → find_customer rows w d c ≡ found → unwrap_or (option_map (λ x. customer_sums rows x.warehouse x.district x.id) found) (no_customer_sums w d c) ≡ customer_sums rows w d c
  customer_at w d c None e = sym (no_customer w d c (ap is_some e))
  customer_at w d c (Some x) e =
      let same = all_equal x.warehouse w x.district d x.id c (change.found_passes (is_customer w d c) rows.customers x e) in λ i. customer_sums rows (same.0 i) (same.1 i) (same.2 i)

  pub customer_found : (s : Sums) (w d c : ℕ) → AreSums rows s → unwrap_or (find (has_key customer_sums_key (w ∷ d ∷ c ∷ [])) s.customers.items) (no_customer_sums w d c) ≡ customer_sums rows w d c
  customer_found s w d c are =
      ap (λ es. unwrap_or (find (has_key customer_sums_key (w ∷ d ∷ c ∷ [])) es) (no_customer_sums w d c)) are.customers
      ∙ ap (λ o. unwrap_or o (no_customer_sums w d c)) (find-map (λ x. customer_sums rows x.warehouse x.district x.id) (is_customer w d c) (has_key customer_sums_key (w ∷ d ∷ c ∷ [])) (customer_test w d c) rows.customers)
      ∙ customer_at w d c (find_customer rows w d c) refl

  -- ---- the entry of a new row

  pub new_warehouse : (s : Sums) (w : WarehouseRow) (entries : List WarehouseSums) → is_some (find_warehouse rows w.id) ≡ false → AreSums rows s → entries ≡ inserted (by_key warehouse_sums_key) (no_warehouse_sums w.id) s.warehouses.items → entries ≡ map (λ x. warehouse_sums rows x.id) (inserted (by_key warehouse_key) w rows.warehouses)
  new_warehouse s w entries none are is =
      is ∙ (λ i. inserted (by_key warehouse_sums_key) (sym (no_warehouse w.id none) i) (are.warehouses i))
      ∙ map-inserted (λ x. warehouse_sums rows x.id) warehouse_key warehouse_sums_key (λ x. refl) w rows.warehouses

  pub new_district : (s : Sums) (d : DistrictRow) (entries : List DistrictSums) → is_some (find_district rows d.warehouse d.id) ≡ false → AreSums rows s → entries ≡ inserted (by_key district_sums_key) (no_district_sums d.warehouse d.id) s.districts.items → entries ≡ map (λ x. district_sums rows x.warehouse x.id) (inserted (by_key district_key) d rows.districts)
  new_district s d entries none are is =
      is ∙ (λ i. inserted (by_key district_sums_key) (sym (no_district d.warehouse d.id none) i) (are.districts i))
      ∙ map-inserted (λ x. district_sums rows x.warehouse x.id) district_key district_sums_key (λ x. refl) d rows.districts

  pub new_customer : (s : Sums) (c : CustomerRow) (entries : List CustomerSums) → is_some (find_customer rows c.warehouse c.district c.id) ≡ false → AreSums rows s → entries ≡ inserted (by_key customer_sums_key) (no_customer_sums c.warehouse c.district c.id) s.customers.items → entries ≡ map (λ x. customer_sums rows x.warehouse x.district x.id) (inserted (by_key customer_key) c rows.customers)
  new_customer s c entries none are is =
      is ∙ (λ i. inserted (by_key customer_sums_key) (sym (no_customer c.warehouse c.district c.id none) i) (are.customers i))
      ∙ map-inserted (λ x. customer_sums rows x.warehouse x.district x.id) customer_key customer_sums_key (λ x. refl) c rows.customers

-- ---- a row that may be loaded has a new key

pub new_warehouse_key : (rows : Rows) (w : WarehouseRow) → warehouse_fault rows w ≡ None → is_some (find_warehouse rows w.id) ≡ false
new_warehouse_key rows w e = (fault_none (is_warehouse_row w) true (is_some (find_warehouse rows w.id)) e).2

pub new_district_key : (rows : Rows) (d : DistrictRow) → district_fault rows d ≡ None → is_some (find_district rows d.warehouse d.id) ≡ false
new_district_key rows d e = (fault_none (is_district_row d) (has_warehouse rows d) (is_some (find_district rows d.warehouse d.id)) e).2

pub new_customer_key : (rows : Rows) (c : CustomerRow) → customer_fault rows c ≡ None → is_some (find_customer rows c.warehouse c.district c.id) ≡ false
new_customer_key rows c e = (fault_none (is_customer_row c) (has_district rows c) (is_some (find_customer rows c.warehouse c.district c.id)) e).2

pub new_order_key : (rows : Rows) (o : OrderRow) → order_fault rows o ≡ None → is_some (find_order rows o.warehouse o.district o.id) ≡ false
new_order_key rows o e = (fault_none (is_order_in_range rows o) (has_customer rows o) (is_some (find_order rows o.warehouse o.district o.id)) e).2

pub order_row_is : (rows : Rows) (o : OrderRow) → order_fault rows o ≡ None → is_order_row o ≡ true
order_row_is rows o e = (split (is_order_row o) _ (fault_none (is_order_in_range rows o) (has_customer rows o) (is_some (find_order rows o.warehouse o.district o.id)) e).0).0

pub order_line_row_is : (rows : Rows) (l : OrderLineRow) → order_line_fault rows l ≡ None → (is_order_line_row l ≡ true) × (is_some (find_order rows l.warehouse l.district l.order) ≡ true)
order_line_row_is rows l e =
    let f = fault_none (is_order_line_row l) (has_order_and_stock rows l) (is_some (find_order_line rows l.warehouse l.district l.order l.number)) e in
    (f.0, (split (is_some (find_order rows l.warehouse l.district l.order)) (is_some (find_stock rows l.supply l.item)) f.1).0)
