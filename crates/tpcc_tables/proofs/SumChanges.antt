-- The sums after each change of the tables.
use Rattle.std.proofs.Common.{◌≡◌, ℕ, ◌+◌, Bool, true, false, List, [], ◌∷◌, sym, ap, ◌∙◌, arith, add_comm, Option, Some}
use Rattle.std.specs.Prelude.{ℤ, ◌+ℤ◌, if◌then◌else◌, ◌==◌, ◌&&◌}
use Rattle.std.proofs.lemmas.Int.{ints}
use Rattle.tpcc_rows.specs.declared.tables.rows.HistoryRow.{HistoryRow}
use Rattle.tpcc_rows.specs.declared.tables.rows.OrderRow.{OrderRow}
use Rattle.tpcc_rows.specs.declared.tables.rows.OrderLineRow.{OrderLineRow}
use Rattle.tpcc_rows.specs.Lists.{updated, inserted, larger}
use Rattle.tpcc_rows.specs.Tables.{Rows, is_order, is_order_of, is_paid_by, find_order, orders_of}
use Rattle.tpcc_rows.specs.Conditions.{delivered_amount}
use Rattle.tpcc_laws.proofs.List.{has_one, total-push, total-same}
use Rattle.tpcc_laws.proofs.Insert.{total-inserted, sum_by-inserted, largest-inserted}
use Rattle.tpcc_laws.proofs.Remove.{total-changed_one}
use Rattle.tpcc_laws.proofs.OrderKeeps.{all_equal}
use Rattle.tpcc_storage.proofs.Change.{found_passes}
use Rattle.tpcc_tables.specs.declared.sums.Sums.{Sums}
use Rattle.tpcc_tables.specs.Loads.{with_history}
use Rattle.tpcc_tables.specs.Internal.Sums.{has_key, warehouse_sums_key, district_sums_key, customer_sums_key, warehouse_sums, district_sums, customer_sums, AreSums, warehouse_with_payment, district_with_payment, customer_with_payment, district_with_order, customer_with_order, customer_with_delivery, HasPaid, HasEntered, HasDelivered}
use Rattle.tpcc_tables.proofs.Sum.{map-same, updated-map, chosen, both_chosen, one_number, two_numbers, three_numbers}

-- ---- a payment

warehouse_paid : (rows : Rows) (h : HistoryRow) (w : ℕ) → warehouse_sums (with_history rows h) w ≡ (if has_key warehouse_sums_key (h.warehouse ∷ []) (warehouse_sums rows w) then warehouse_with_payment h.amount (warehouse_sums rows w) else warehouse_sums rows w)
warehouse_paid rows h w =
    let old = warehouse_sums rows w in
    let with_paid = λ (paid : ℤ). record old { paid = paid } in
    ap with_paid (total-push (λ x. x.amount) (λ x. x.warehouse == w) rows.histories h)
    ∙ chosen with_paid (h.warehouse == w) (old.paid +ℤ h.amount) old.paid
    ∙ ap (λ b. if b then warehouse_with_payment h.amount old else old) (sym (one_number w h.warehouse))

district_paid : (rows : Rows) (h : HistoryRow) (w d : ℕ) → district_sums (with_history rows h) w d ≡ (if has_key district_sums_key (h.warehouse ∷ h.district ∷ []) (district_sums rows w d) then district_with_payment h.amount (district_sums rows w d) else district_sums rows w d)
district_paid rows h w d =
    let old = district_sums rows w d in
    let with_paid = λ (paid : ℤ). record old { paid = paid } in
    ap with_paid (total-push (λ x. x.amount) (λ x. (x.warehouse == w) && (x.district == d)) rows.histories h)
    ∙ chosen with_paid ((h.warehouse == w) && (h.district == d)) (old.paid +ℤ h.amount) old.paid
    ∙ ap (λ b. if b then district_with_payment h.amount old else old) (sym (two_numbers w d h.warehouse h.district))

customer_paid : (rows : Rows) (h : HistoryRow) (w d c : ℕ) → customer_sums (with_history rows h) w d c ≡ (if has_key customer_sums_key (h.customer_warehouse ∷ h.customer_district ∷ h.customer ∷ []) (customer_sums rows w d c) then customer_with_payment h.amount (customer_sums rows w d c) else customer_sums rows w d c)
customer_paid rows h w d c =
    let old = customer_sums rows w d c in
    let with_paid = λ (paid : ℤ). record old { paid = paid } in
    ap with_paid (total-push (λ x. x.amount) (is_paid_by w d c) rows.histories h)
    ∙ chosen with_paid (is_paid_by w d c h) (old.paid +ℤ h.amount) old.paid
    ∙ ap (λ b. if b then customer_with_payment h.amount old else old) (sym (three_numbers w d c h.customer_warehouse h.customer_district h.customer))

pub paid : (rows : Rows) (h : HistoryRow) (old new : Sums) → AreSums rows old → HasPaid h old new → AreSums (with_history rows h) new
paid rows h old new are is =
    record {
      warehouses = is.warehouses ∙ ap (updated (has_key warehouse_sums_key (h.warehouse ∷ [])) (warehouse_with_payment h.amount)) are.warehouses
          ∙ updated-map (λ w. warehouse_sums rows w.id) (λ w. warehouse_sums (with_history rows h) w.id) (has_key warehouse_sums_key (h.warehouse ∷ [])) (warehouse_with_payment h.amount) (λ w. warehouse_paid rows h w.id) rows.warehouses;
      districts = is.districts ∙ ap (updated (has_key district_sums_key (h.warehouse ∷ h.district ∷ [])) (district_with_payment h.amount)) are.districts
          ∙ updated-map (λ d. district_sums rows d.warehouse d.id) (λ d. district_sums (with_history rows h) d.warehouse d.id) (has_key district_sums_key (h.warehouse ∷ h.district ∷ [])) (district_with_payment h.amount) (λ d. district_paid rows h d.warehouse d.id) rows.districts;
      customers = is.customers ∙ ap (updated (has_key customer_sums_key (h.customer_warehouse ∷ h.customer_district ∷ h.customer ∷ [])) (customer_with_payment h.amount)) are.customers
          ∙ updated-map (λ c. customer_sums rows c.warehouse c.district c.id) (λ c. customer_sums (with_history rows h) c.warehouse c.district c.id) (has_key customer_sums_key (h.customer_warehouse ∷ h.customer_district ∷ h.customer ∷ [])) (customer_with_payment h.amount) (λ c. customer_paid rows h c.warehouse c.district c.id) rows.customers;
    }

-- ---- an order

swap : (x t a : ℤ) → x ≡ a → x +ℤ t ≡ t +ℤ a
swap x t a e = omega (arith, ints)

module _ (before : OrderRow → OrderRow → Bool) (rows : Rows) (o : OrderRow) (a : ℤ) (delivered : delivered_amount rows o ≡ a) where
  abbrev with_one_more : Rows
  with_one_more = record rows { orders = inserted before o rows.orders }

  district_entered : (w d : ℕ) → district_sums with_one_more w d ≡ (if has_key district_sums_key (o.warehouse ∷ o.district ∷ []) (district_sums rows w d) then district_with_order o.line_count (district_sums rows w d) else district_sums rows w d)
  district_entered w d =
      let old = district_sums rows w d in
      let with_lines = λ (lines : ℕ). record old { counted_lines = lines } in
      let its = (o.warehouse == w) && (o.district == d) in
      ap with_lines (sum_by-inserted before (λ x. x.line_count) (λ x. (x.warehouse == w) && (x.district == d)) o rows.orders)
      ∙ chosen with_lines its (o.line_count + old.counted_lines) old.counted_lines
      ∙ ap (λ n. if its then with_lines n else old) (add_comm o.line_count old.counted_lines)
      ∙ ap (λ b. if b then district_with_order o.line_count old else old) (sym (two_numbers w d o.warehouse o.district))

  customer_entered : (w d c : ℕ) → customer_sums with_one_more w d c ≡ (if has_key customer_sums_key (o.warehouse ∷ o.district ∷ o.customer ∷ []) (customer_sums rows w d c) then customer_with_order o.id a (customer_sums rows w d c) else customer_sums rows w d c)
  customer_entered w d c =
      let old = customer_sums rows w d c in
      let with_both = λ (last : Option ℕ) (t : ℤ). record old { last_order = last; delivered = t } in
      let its = is_order_of w d c o in
      (λ i. with_both (largest-inserted before (λ x. x.id) (is_order_of w d c) o rows.orders i) (total-inserted before (delivered_amount rows) (is_order_of w d c) o rows.orders i))
      ∙ both_chosen with_both its (Some (larger o.id old.last_order)) old.last_order (delivered_amount rows o +ℤ old.delivered) old.delivered
      ∙ ap (λ t. if its then with_both (Some (larger o.id old.last_order)) t else old) (swap (delivered_amount rows o) old.delivered a delivered)
      ∙ ap (λ b. if b then customer_with_order o.id a old else old) (sym (three_numbers w d c o.warehouse o.district o.customer))

  pub entered : (old new : Sums) → AreSums rows old → HasEntered o a old new → AreSums (record rows { orders = inserted before o rows.orders }) new
  entered old new are is =
      record {
        warehouses = is.warehouses ∙ are.warehouses;
        districts = is.districts ∙ ap (updated (has_key district_sums_key (o.warehouse ∷ o.district ∷ [])) (district_with_order o.line_count)) are.districts
            ∙ updated-map (λ d. district_sums rows d.warehouse d.id) (λ d. district_sums with_one_more d.warehouse d.id) (has_key district_sums_key (o.warehouse ∷ o.district ∷ [])) (district_with_order o.line_count) (λ d. district_entered d.warehouse d.id) rows.districts;
        customers = is.customers ∙ ap (updated (has_key customer_sums_key (o.warehouse ∷ o.district ∷ o.customer ∷ [])) (customer_with_order o.id a)) are.customers
            ∙ updated-map (λ c. customer_sums rows c.warehouse c.district c.id) (λ c. customer_sums with_one_more c.warehouse c.district c.id) (has_key customer_sums_key (o.warehouse ∷ o.district ∷ o.customer ∷ [])) (customer_with_order o.id a) (λ c. customer_entered c.warehouse c.district c.id) rows.customers;
      }

-- ---- lines of which more, or as much, is delivered

abbrev pub with_lines : Rows → List OrderLineRow → Rows
with_lines rows lines = record rows { order_lines = lines }

-- as much of each order
pub as_delivered : (rows : Rows) (lines : List OrderLineRow) (s : Sums) → ((r : OrderRow) → delivered_amount rows r ≡ delivered_amount (with_lines rows lines) r) → AreSums rows s → AreSums (with_lines rows lines) s
as_delivered rows lines s same are =
    record {
      warehouses = are.warehouses;
      districts = are.districts;
      customers = are.customers
          ∙ map-same (λ c. customer_sums rows c.warehouse c.district c.id) (λ c. customer_sums (with_lines rows lines) c.warehouse c.district c.id) (λ c i. record (customer_sums rows c.warehouse c.district c.id) { delivered = total-same (delivered_amount rows) (delivered_amount (with_lines rows lines)) same (orders_of rows c.warehouse c.district c.id) i }) rows.customers;
    }

-- more of one order
pub record IsMoreOf (rows : Rows) (lines : List OrderLineRow) (w d o : ℕ) (a : ℤ) (order : OrderRow) : Type 0 where
  pub found : find_order rows w d o ≡ Some order
  pub one : has_one (is_order w d o) rows.orders ≡ true
  pub others : (r : OrderRow) → is_order w d o r ≡ false → delivered_amount (with_lines rows lines) r ≡ delivered_amount rows r
  pub this : (r : OrderRow) → is_order w d o r ≡ true → delivered_amount (with_lines rows lines) r ≡ delivered_amount rows r +ℤ a

module _ (rows : Rows) (lines : List OrderLineRow) (w d o : ℕ) (a : ℤ) (order : OrderRow) (more : IsMoreOf rows lines w d o a order) where
  its_customer : (x y z : ℕ) → is_order_of x y z order ≡ has_key customer_sums_key (w ∷ d ∷ order.customer ∷ []) (customer_sums rows x y z)
  its_customer x y z =
      let same = all_equal order.warehouse w order.district d order.id o (found_passes (is_order w d o) rows.orders order more.found) in
      (λ i. (same.0 i == x) && (same.1 i == y) && (order.customer == z)) ∙ sym (three_numbers x y z w d order.customer)

  customer_delivered : (x y z : ℕ) → customer_sums (with_lines rows lines) x y z ≡ (if has_key customer_sums_key (w ∷ d ∷ order.customer ∷ []) (customer_sums rows x y z) then customer_with_delivery a (customer_sums rows x y z) else customer_sums rows x y z)
  customer_delivered x y z =
      let old = customer_sums rows x y z in
      let with_delivered = λ (t : ℤ). record old { delivered = t } in
      let its = is_order_of x y z order in
      ap with_delivered (total-changed_one (delivered_amount (with_lines rows lines)) (delivered_amount rows) (is_order w d o) (is_order_of x y z) a more.others more.this rows.orders more.one order more.found)
      ∙ chosen with_delivered its (old.delivered +ℤ a) old.delivered
      ∙ ap (λ b. if b then customer_with_delivery a old else old) (its_customer x y z)

  pub more_delivered : (old new : Sums) → AreSums rows old → HasDelivered w d order.customer a old new → AreSums (with_lines rows lines) new
  more_delivered old new are is =
      record {
        warehouses = is.warehouses ∙ are.warehouses;
        districts = is.districts ∙ are.districts;
        customers = is.customers ∙ ap (updated (has_key customer_sums_key (w ∷ d ∷ order.customer ∷ [])) (customer_with_delivery a)) are.customers
            ∙ updated-map (λ c. customer_sums rows c.warehouse c.district c.id) (λ c. customer_sums (with_lines rows lines) c.warehouse c.district c.id) (has_key customer_sums_key (w ∷ d ∷ order.customer ∷ [])) (customer_with_delivery a) (λ c. customer_delivered c.warehouse c.district c.id) rows.customers;
      }
