-- Rows that are loaded keep the tables well-keyed.
use Rattle.std.proofs.Common.{◌≡◌, ℕ, Bool, true, false, List, [], ◌∷◌, ◌++◌, refl, sym, ◌∙◌, arith, Option, Some, None}
use Rattle.std.specs.Prelude.{◌||◌, not, is_some, find, nat_lt, unwrap_or}
use Rattle.std.specs.List.{list_all}
use Rattle.std.proofs.lemmas.Bool.Decides.{nat_tests}
use Rattle.std.proofs.lemmas.List.Folds.{list_all-append}
use Rattle.tpcc_rows.specs.declared.tables.rows.WarehouseRow.{WarehouseRow}
use Rattle.tpcc_rows.specs.declared.tables.rows.DistrictRow.{DistrictRow}
use Rattle.tpcc_rows.specs.declared.tables.rows.CustomerRow.{CustomerRow}
use Rattle.tpcc_rows.specs.declared.tables.rows.HistoryRow.{HistoryRow}
use Rattle.tpcc_rows.specs.declared.tables.rows.OrderRow.{OrderRow}
use Rattle.tpcc_rows.specs.declared.tables.rows.OrderLineRow.{OrderLineRow}
use Rattle.tpcc_rows.specs.declared.tables.rows.NewOrderRow.{NewOrderRow}
use Rattle.tpcc_rows.specs.declared.tables.rows.ItemRow.{ItemRow}
use Rattle.tpcc_rows.specs.declared.tables.rows.StockRow.{StockRow}
use Rattle.tpcc_rows.specs.Lists.{inserted, by_key, is_ascending}
use Rattle.tpcc_rows.specs.Ranges.{is_warehouse_row, is_district_row, is_customer_row, is_history_row, is_order_row, is_order_line_row, is_new_order_row, is_item_row, is_stock_row}
use Rattle.tpcc_rows.specs.Tables.{Rows, warehouse_key, district_key, customer_key, order_key, order_line_key, new_order_key, item_key, stock_key, is_warehouse, is_district, is_customer, is_order, is_new_order, is_item, is_stock, find_warehouse, find_district, find_customer, find_order, find_new_order, find_item, find_stock, no_district}
use Rattle.tpcc_rows.specs.WellKeyed.{IsKeyed, HasParents, IsInRange, IsWellKeyed, has_warehouse, has_district, has_payer, has_customer, has_order, has_order_and_stock, has_warehouse_and_item, is_numbered_below_next}
use Rattle.tpcc_laws.proofs.List.{list_all-mono}
use Rattle.tpcc_laws.proofs.Insert.{list_all-inserted, find-inserted_other}
use Rattle.tpcc_laws.proofs.OrderKeys.{apart, ascending-inserted}
use Rattle.tpcc_rows.proofs.Booleans.{both_true, split}
use Rattle.tpcc_laws.proofs.OrderParents.{found-inserted_more}
use Rattle.tpcc_laws.proofs.Remove.{found_passes}
use Rattle.tpcc_laws.proofs.DeliveryKeeps.{some_of}
use Rattle.tpcc_laws.proofs.OrderKeeps.{both_equal, all_equal}
use Rattle.tpcc_tables.specs.Loads.{is_order_line, find_order_line, with_warehouse, with_district, with_customer, with_history, with_order, with_order_line, with_new_order, with_item, with_stock, fault_of, warehouse_fault, district_fault, customer_fault, history_fault, is_order_in_range, order_fault, order_line_fault, new_order_fault, item_fault, stock_fault}

pub fault_none : (in_range has_parents is_taken : Bool) → fault_of in_range has_parents is_taken ≡ None → (in_range ≡ true) × (has_parents ≡ true) × (is_taken ≡ false)
fault_none true true true e = cc
fault_none true true false e = (refl, refl, refl)
fault_none true false is_taken e = cc
fault_none false has_parents is_taken e = cc

-- a row whose key is new goes before or after each other row
new_key : {X : Type 0} (key : X → List ℕ) (q : X → Bool) (new : X) → ((x : X) → q x ≡ false → apart (key new) (key x) ≡ true) → (xs : List X) → is_some (find q xs) ≡ false → list_all (λ x. apart (key new) (key x)) xs ≡ true
new_key key q new other [] none = refl
new_key key q new other (x ∷ xs) none = grind (arith, other x, new_key key q new other xs)

ascends : {X : Type 0} (key : X → List ℕ) (q : X → Bool) (new : X) → ((x : X) → q x ≡ false → apart (key new) (key x) ≡ true) → (xs : List X) → is_ascending key xs ≡ true → is_some (find q xs) ≡ false → is_ascending key (inserted (by_key key) new xs) ≡ true
ascends key q new other xs keyed none = ascending-inserted key new xs keyed (new_key key q new other xs none)

-- a test that holds of the old rows and of the new one
one_more : {X : Type 0} (key : X → List ℕ) (test : X → Bool) (new : X) (xs : List X) → test new ≡ true → list_all test xs ≡ true → list_all test (inserted (by_key key) new xs) ≡ true
one_more key test new xs here rest = list_all-inserted (by_key key) test new xs ∙ both_true (test new) (list_all test xs) here rest

one_last : {X : Type 0} (test : X → Bool) (new : X) (xs : List X) → test new ≡ true → list_all test xs ≡ true → list_all test (xs ++ new ∷ []) ≡ true
one_last test new xs here rest = list_all-append test xs (new ∷ []) ∙ both_true (list_all test xs) (list_all test (new ∷ [])) rest (both_true (test new) true here refl)

other_warehouse : (new x : WarehouseRow) → is_warehouse new.id x ≡ false → apart (warehouse_key new) (warehouse_key x) ≡ true
other_warehouse new x h = grind (arith, nat_tests)

other_district : (new x : DistrictRow) → is_district new.warehouse new.id x ≡ false → apart (district_key new) (district_key x) ≡ true
other_district new x h = grind (arith, nat_tests)

other_customer : (new x : CustomerRow) → is_customer new.warehouse new.district new.id x ≡ false → apart (customer_key new) (customer_key x) ≡ true
other_customer new x h = grind (arith, nat_tests)

other_order : (new x : OrderRow) → is_order new.warehouse new.district new.id x ≡ false → apart (order_key new) (order_key x) ≡ true
other_order new x h = grind (arith, nat_tests)

other_order_line : (new x : OrderLineRow) → is_order_line new.warehouse new.district new.order new.number x ≡ false → apart (order_line_key new) (order_line_key x) ≡ true
other_order_line new x h = grind (arith, nat_tests)

other_new_order : (new x : NewOrderRow) → is_new_order new.warehouse new.district new.order x ≡ false → apart (new_order_key new) (new_order_key x) ≡ true
other_new_order new x h = grind (arith, nat_tests)

other_item : (new x : ItemRow) → is_item new.id x ≡ false → apart (item_key new) (item_key x) ≡ true
other_item new x h = grind (arith, nat_tests)

other_stock : (new x : StockRow) → is_stock new.warehouse new.item x ≡ false → apart (stock_key new) (stock_key x) ≡ true
other_stock new x h = grind (arith, nat_tests)

-- an order's number stays below the next one of its district
below_none : (o : Option DistrictRow) (id : ℕ) → is_some o ≡ false → nat_lt id (unwrap_or o no_district).next_order ≡ true → ⊥
below_none None id none h = grind (arith, nat_tests)
below_none (Some d) id none h = cc

next_stays : (id w d : ℕ) (new : DistrictRow) (ds : List DistrictRow) (b : Bool) → is_district w d new ≡ b → is_some (find (is_district new.warehouse new.id) ds) ≡ false → nat_lt id (unwrap_or (find (is_district w d) ds) no_district).next_order ≡ true → nat_lt id (unwrap_or (find (is_district w d) (inserted (by_key district_key) new ds)) no_district).next_order ≡ true
next_stays id w d new ds true same none h =
    let key = both_equal new.warehouse w new.id d same in
    absurd (below_none (find (is_district w d) ds) id ((λ i. is_some (find (is_district (sym key.0 i) (sym key.1 i)) ds)) ∙ none) h)
next_stays id w d new ds false same none h = (λ i. nat_lt id (unwrap_or (find-inserted_other (by_key district_key) (is_district w d) new ds same i) no_district).next_order) ∙ h

-- an order of a customer is in a district, and so its number is below the next one
pub customer_district : (rows : Rows) (w d k : ℕ) → HasParents rows → is_some (find_customer rows w d k) ≡ true → is_some (find_district rows w d) ≡ true
customer_district rows w d k parents there =
    let c = some_of (find_customer rows w d k) there in
    let p = found_passes (is_customer w d k) (has_district rows) rows.customers c.0 c.1 parents.customers in
    let key = all_equal c.0.warehouse w c.0.district d c.0.id k p.0 in
    (λ i. is_some (find_district rows (sym key.0 i) (sym key.1 i))) ∙ p.1

below_next : (there below : Bool) → (not there || below) ≡ true → there ≡ true → below ≡ true
below_next true below e t = e
below_next false below e t = cc

-- ---- one row more

-- a test of the rows that stays true
abbrev Stays : (Rows → Bool) → Rows → Rows → Type 0
Stays test rows new = test rows ≡ true → test new ≡ true

-- of a table that stays
same : {A : Type 0} → A → A
same h = h

keyed_then : {rows new : Rows} → IsKeyed rows → Stays (λ r. is_ascending warehouse_key r.warehouses) rows new → Stays (λ r. is_ascending district_key r.districts) rows new
    → Stays (λ r. is_ascending customer_key r.customers) rows new → Stays (λ r. is_ascending order_key r.orders) rows new → Stays (λ r. is_ascending order_line_key r.order_lines) rows new
    → Stays (λ r. is_ascending new_order_key r.new_orders) rows new → Stays (λ r. is_ascending item_key r.items) rows new → Stays (λ r. is_ascending stock_key r.stocks) rows new → IsKeyed new
keyed_then h warehouses districts customers orders order_lines new_orders items stocks =
    record {
      warehouses = warehouses h.warehouses;
      districts = districts h.districts;
      customers = customers h.customers;
      orders = orders h.orders;
      order_lines = order_lines h.order_lines;
      new_orders = new_orders h.new_orders;
      items = items h.items;
      stocks = stocks h.stocks;
    }

parents_then : {rows new : Rows} → HasParents rows → Stays (λ r. list_all (has_warehouse r) r.districts) rows new → Stays (λ r. list_all (has_district r) r.customers) rows new
    → Stays (λ r. list_all (has_payer r) r.histories) rows new → Stays (λ r. list_all (has_customer r) r.orders) rows new → Stays (λ r. list_all (has_order_and_stock r) r.order_lines) rows new
    → Stays (λ r. list_all (has_order r) r.new_orders) rows new → Stays (λ r. list_all (has_warehouse_and_item r) r.stocks) rows new → Stays (λ r. list_all (is_numbered_below_next r) r.orders) rows new → HasParents new
parents_then h districts customers histories orders order_lines new_orders stocks numbers =
    record {
      districts = districts h.districts;
      customers = customers h.customers;
      histories = histories h.histories;
      orders = orders h.orders;
      order_lines = order_lines h.order_lines;
      new_orders = new_orders h.new_orders;
      stocks = stocks h.stocks;
      numbers = numbers h.numbers;
    }

ranges_then : {rows new : Rows} → IsInRange rows → Stays (λ r. list_all is_warehouse_row r.warehouses) rows new → Stays (λ r. list_all is_district_row r.districts) rows new
    → Stays (λ r. list_all is_customer_row r.customers) rows new → Stays (λ r. list_all is_history_row r.histories) rows new → Stays (λ r. list_all is_order_row r.orders) rows new
    → Stays (λ r. list_all is_order_line_row r.order_lines) rows new → Stays (λ r. list_all is_new_order_row r.new_orders) rows new → Stays (λ r. list_all is_item_row r.items) rows new
    → Stays (λ r. list_all is_stock_row r.stocks) rows new → IsInRange new
ranges_then h warehouses districts customers histories orders order_lines new_orders items stocks =
    record {
      warehouses = warehouses h.warehouses;
      districts = districts h.districts;
      customers = customers h.customers;
      histories = histories h.histories;
      orders = orders h.orders;
      order_lines = order_lines h.order_lines;
      new_orders = new_orders h.new_orders;
      items = items h.items;
      stocks = stocks h.stocks;
    }

pub loaded_warehouse : (rows : Rows) (w : WarehouseRow) → warehouse_fault rows w ≡ None → IsWellKeyed rows → IsWellKeyed (with_warehouse rows w)
loaded_warehouse rows w e h =
    let f = fault_none (is_warehouse_row w) true (is_some (find_warehouse rows w.id)) e in
    let more : (id : ℕ) → is_some (find_warehouse rows id) ≡ true → is_some (find_warehouse (with_warehouse rows w) id) ≡ true = λ id k. found-inserted_more (by_key warehouse_key) (is_warehouse id) w rows.warehouses k in
    record {
      keyed = keyed_then h.keyed (λ old. ascends warehouse_key (is_warehouse w.id) w (other_warehouse w) rows.warehouses old f.2) same same same same same same same;
      parents =
          parents_then h.parents (λ old. list_all-mono (has_warehouse rows) (has_warehouse (with_warehouse rows w)) (λ d k. more d.warehouse k) rows.districts old)
          same same same same same
          (λ old. list_all-mono (has_warehouse_and_item rows) (has_warehouse_and_item (with_warehouse rows w)) (λ s k. let p = split (is_some (find_warehouse rows s.warehouse)) (is_some (find_item rows s.item)) k in both_true _ _ (more s.warehouse p.0) p.1) rows.stocks old)
          same;
      ranges = ranges_then h.ranges (λ old. one_more warehouse_key is_warehouse_row w rows.warehouses f.0 old) same same same same same same same same;
    }

pub loaded_district : (rows : Rows) (d : DistrictRow) → district_fault rows d ≡ None → IsWellKeyed rows → IsWellKeyed (with_district rows d)
loaded_district rows d e h =
    let f = fault_none (is_district_row d) (has_warehouse rows d) (is_some (find_district rows d.warehouse d.id)) e in
    let more : (w n : ℕ) → is_some (find_district rows w n) ≡ true → is_some (find_district (with_district rows d) w n) ≡ true = λ w n k. found-inserted_more (by_key district_key) (is_district w n) d rows.districts k in
    record {
      keyed = keyed_then h.keyed same (λ old. ascends district_key (is_district d.warehouse d.id) d (other_district d) rows.districts old f.2) same same same same same same;
      parents =
          parents_then h.parents (λ old. one_more district_key (has_warehouse rows) d rows.districts f.1 old)
          (λ old. list_all-mono (has_district rows) (has_district (with_district rows d)) (λ c k. more c.warehouse c.district k) rows.customers old)
          (λ old. list_all-mono (has_payer rows) (has_payer (with_district rows d)) (λ x k. let p = split (is_some (find_customer rows x.customer_warehouse x.customer_district x.customer)) (is_some (find_district rows x.warehouse x.district)) k in both_true _ _ p.0 (more x.warehouse x.district p.1)) rows.histories old)
          same same same same
          (λ old. list_all-mono (is_numbered_below_next rows) (is_numbered_below_next (with_district rows d)) (λ o k. next_stays o.id o.warehouse o.district d rows.districts (is_district o.warehouse o.district d) refl f.2 k) rows.orders old);
      ranges = ranges_then h.ranges same (λ old. one_more district_key is_district_row d rows.districts f.0 old) same same same same same same same;
    }

pub loaded_customer : (rows : Rows) (c : CustomerRow) → customer_fault rows c ≡ None → IsWellKeyed rows → IsWellKeyed (with_customer rows c)
loaded_customer rows c e h =
    let f = fault_none (is_customer_row c) (has_district rows c) (is_some (find_customer rows c.warehouse c.district c.id)) e in
    let more : (w d n : ℕ) → is_some (find_customer rows w d n) ≡ true → is_some (find_customer (with_customer rows c) w d n) ≡ true = λ w d n k. found-inserted_more (by_key customer_key) (is_customer w d n) c rows.customers k in
    record {
      keyed = keyed_then h.keyed same same (λ old. ascends customer_key (is_customer c.warehouse c.district c.id) c (other_customer c) rows.customers old f.2) same same same same same;
      parents =
          parents_then h.parents same
          (λ old. one_more customer_key (has_district rows) c rows.customers f.1 old)
          (λ old. list_all-mono (has_payer rows) (has_payer (with_customer rows c)) (λ x k. let p = split (is_some (find_customer rows x.customer_warehouse x.customer_district x.customer)) (is_some (find_district rows x.warehouse x.district)) k in both_true _ _ (more x.customer_warehouse x.customer_district x.customer p.0) p.1) rows.histories old)
          (λ old. list_all-mono (has_customer rows) (has_customer (with_customer rows c)) (λ o k. more o.warehouse o.district o.customer k) rows.orders old)
          same same same same;
      ranges = ranges_then h.ranges same same (λ old. one_more customer_key is_customer_row c rows.customers f.0 old) same same same same same same;
    }

pub loaded_history : (rows : Rows) (x : HistoryRow) → history_fault rows x ≡ None → IsWellKeyed rows → IsWellKeyed (with_history rows x)
loaded_history rows x e h =
    let f = fault_none (is_history_row x) (has_payer rows x) false e in
    record {
      keyed = keyed_then h.keyed same same same same same same same same;
      parents = parents_then h.parents same same (λ old. one_last (has_payer rows) x rows.histories f.1 old) same same same same same;
      ranges = ranges_then h.ranges same same same (λ old. one_last is_history_row x rows.histories f.0 old) same same same same same;
    }

pub loaded_order : (rows : Rows) (o : OrderRow) → order_fault rows o ≡ None → IsWellKeyed rows → IsWellKeyed (with_order rows o)
loaded_order rows o e h =
    let f = fault_none (is_order_in_range rows o) (has_customer rows o) (is_some (find_order rows o.warehouse o.district o.id)) e in
    let more : (w d n : ℕ) → is_some (find_order rows w d n) ≡ true → is_some (find_order (with_order rows o) w d n) ≡ true = λ w d n k. found-inserted_more (by_key order_key) (is_order w d n) o rows.orders k in
    let range = split (is_order_row o) (not (is_some (find_district rows o.warehouse o.district)) || is_numbered_below_next rows o) f.0 in
    let number = below_next (is_some (find_district rows o.warehouse o.district)) (is_numbered_below_next rows o) range.1 (customer_district rows o.warehouse o.district o.customer h.parents f.1) in
    record {
      keyed = keyed_then h.keyed same same same (λ old. ascends order_key (is_order o.warehouse o.district o.id) o (other_order o) rows.orders old f.2) same same same same;
      parents =
          parents_then h.parents same same same
          (λ old. one_more order_key (has_customer rows) o rows.orders f.1 old)
          (λ old. list_all-mono (has_order_and_stock rows) (has_order_and_stock (with_order rows o)) (λ l k. let p = split (is_some (find_order rows l.warehouse l.district l.order)) (is_some (find_stock rows l.supply l.item)) k in both_true _ _ (more l.warehouse l.district l.order p.0) p.1) rows.order_lines old)
          (λ old. list_all-mono (has_order rows) (has_order (with_order rows o)) (λ n k. more n.warehouse n.district n.order k) rows.new_orders old)
          same
          (λ old. one_more order_key (is_numbered_below_next rows) o rows.orders number old);
      ranges = ranges_then h.ranges same same same same (λ old. one_more order_key is_order_row o rows.orders range.0 old) same same same same;
    }

pub loaded_order_line : (rows : Rows) (l : OrderLineRow) → order_line_fault rows l ≡ None → IsWellKeyed rows → IsWellKeyed (with_order_line rows l)
loaded_order_line rows l e h =
    let f = fault_none (is_order_line_row l) (has_order_and_stock rows l) (is_some (find_order_line rows l.warehouse l.district l.order l.number)) e in
    record {
      keyed =
          keyed_then h.keyed same same same same
          (λ old. ascends order_line_key (is_order_line l.warehouse l.district l.order l.number) l (other_order_line l) rows.order_lines old f.2)
          same same same;
      parents = parents_then h.parents same same same same (λ old. one_more order_line_key (has_order_and_stock rows) l rows.order_lines f.1 old) same same same;
      ranges = ranges_then h.ranges same same same same same (λ old. one_more order_line_key is_order_line_row l rows.order_lines f.0 old) same same same;
    }

pub loaded_new_order : (rows : Rows) (n : NewOrderRow) → new_order_fault rows n ≡ None → IsWellKeyed rows → IsWellKeyed (with_new_order rows n)
loaded_new_order rows n e h =
    let f = fault_none (is_new_order_row n) (has_order rows n) (is_some (find_new_order rows n.warehouse n.district n.order)) e in
    record {
      keyed =
          keyed_then h.keyed same same same same same
          (λ old. ascends new_order_key (is_new_order n.warehouse n.district n.order) n (other_new_order n) rows.new_orders old f.2)
          same same;
      parents = parents_then h.parents same same same same same (λ old. one_more new_order_key (has_order rows) n rows.new_orders f.1 old) same same;
      ranges = ranges_then h.ranges same same same same same same (λ old. one_more new_order_key is_new_order_row n rows.new_orders f.0 old) same same;
    }

pub loaded_item : (rows : Rows) (i : ItemRow) → item_fault rows i ≡ None → IsWellKeyed rows → IsWellKeyed (with_item rows i)
loaded_item rows i e h =
    let f = fault_none (is_item_row i) true (is_some (find_item rows i.id)) e in
    let more : (id : ℕ) → is_some (find_item rows id) ≡ true → is_some (find_item (with_item rows i) id) ≡ true = λ id k. found-inserted_more (by_key item_key) (is_item id) i rows.items k in
    record {
      keyed = keyed_then h.keyed same same same same same same (λ old. ascends item_key (is_item i.id) i (other_item i) rows.items old f.2) same;
      parents =
          parents_then h.parents same same same same same same
          (λ old. list_all-mono (has_warehouse_and_item rows) (has_warehouse_and_item (with_item rows i)) (λ s k. let p = split (is_some (find_warehouse rows s.warehouse)) (is_some (find_item rows s.item)) k in both_true _ _ p.0 (more s.item p.1)) rows.stocks old)
          same;
      ranges = ranges_then h.ranges same same same same same same same (λ old. one_more item_key is_item_row i rows.items f.0 old) same;
    }

pub loaded_stock : (rows : Rows) (s : StockRow) → stock_fault rows s ≡ None → IsWellKeyed rows → IsWellKeyed (with_stock rows s)
loaded_stock rows s e h =
    let f = fault_none (is_stock_row s) (has_warehouse_and_item rows s) (is_some (find_stock rows s.warehouse s.item)) e in
    let more : (w n : ℕ) → is_some (find_stock rows w n) ≡ true → is_some (find_stock (with_stock rows s) w n) ≡ true = λ w n k. found-inserted_more (by_key stock_key) (is_stock w n) s rows.stocks k in
    record {
      keyed = keyed_then h.keyed same same same same same same same (λ old. ascends stock_key (is_stock s.warehouse s.item) s (other_stock s) rows.stocks old f.2);
      parents =
          parents_then h.parents same same same same
          (λ old. list_all-mono (has_order_and_stock rows) (has_order_and_stock (with_stock rows s)) (λ l k. let p = split (is_some (find_order rows l.warehouse l.district l.order)) (is_some (find_stock rows l.supply l.item)) k in both_true _ _ p.0 (more l.supply l.item p.1)) rows.order_lines old)
          same
          (λ old. one_more stock_key (has_warehouse_and_item rows) s rows.stocks f.1 old)
          same;
      ranges = ranges_then h.ranges same same same same same same same same (λ old. one_more stock_key is_stock_row s rows.stocks f.0 old);
    }
