-- The sums after the writing calls.
use Rattle.std.proofs.Common.{◌≡◌, ℕ, ◌≤◌, Bool, true, false, List, [], ◌∷◌, refl, sym, ap, ◌∙◌, subst, arith, Option, Some, None}
use Rattle.std.specs.Prelude.{ℤ, pos, ◌+ℤ◌, filter, map, if◌then◌else◌, ◌==◌, ◌&&◌, is_some, unwrap_or}
use Rattle.std.specs.List.{list_all, enumerate_from}
use Rattle.std.specs.Bool.{beq}
use Rattle.std.proofs.lemmas.Int.{ints}
use Rattle.std.proofs.lemmas.Bool.Decides.{nat_tests}
use Rattle.tpcc_money.specs.Amounts.{total}
use Rattle.tpcc_rows.specs.declared.tables.rows.HistoryRow.{HistoryRow}
use Rattle.tpcc_rows.specs.declared.tables.rows.OrderRow.{OrderRow}
use Rattle.tpcc_rows.specs.declared.tables.rows.OrderLineRow.{OrderLineRow}
use Rattle.tpcc_rows.specs.declared.tables.rows.NewOrderRow.{NewOrderRow}
use Rattle.tpcc_rows.specs.Lists.{updated, inserted, inserted_all, by_key, largest, smallest}
use Rattle.tpcc_rows.specs.Ranges.{is_order_row}
use Rattle.tpcc_rows.specs.Tables.{Rows, is_warehouse, is_district, is_customer, is_order, is_order_of, is_line_of, order_key, order_line_key, new_order_key, find_order, lines_of, order_at, no_order}
use Rattle.tpcc_rows.specs.WellKeyed.{IsKeyed, HasParents, IsWellKeyed, has_order, has_order_and_stock}
use Rattle.tpcc_rows.specs.Conditions.{delivered_amount}
use Rattle.tpcc_rows.specs.NewOrder.{order_line_row, with_next_order}
use Rattle.tpcc_rows.specs.Delivery.{after_delivery, oldest_new_order, order_amount, delivered_customer}
use Rattle.tpcc_rows.proofs.Booleans.{split}
use Rattle.tpcc_laws.proofs.List.{has_one, one_of_key, filter-none, filter-map_none, total-updated_none, total-updated_same}
use Rattle.tpcc_laws.proofs.Insert.{list_all-inserted, total-inserted, total-inserted_all}
use Rattle.tpcc_laws.proofs.Remove.{is_rising, sum_by-updated_same, map-updated_same, total-updated_all}
use Rattle.tpcc_laws.proofs.OrderKeeps.{both_equal, all_equal, by_contradiction, true_is_false, no_old_order}
use Rattle.tpcc_laws.proofs.DeliveryKeeps.{with_carrier, with_delivery_date}
use Rattle.tpcc_tables.specs.declared.sums.Sums.{Sums}
use Rattle.tpcc_tables.specs.Loads.{with_history, with_order, with_order_line}
use Rattle.tpcc_tables.specs.Internal.Sums.{warehouse_sums, district_sums, customer_sums, AreSums, HasEntered, HasDelivered}
use Rattle.tpcc_tables.specs.Writes.{with_payment, with_entered_order, richer_warehouse, richer_district, customer_after_payment, IsOrder}
use Rattle.tpcc_tables.proofs.Filter.{filter-twice}
use Rattle.tpcc_tables.proofs.KeyTests.{orders_apart}
use Rattle.tpcc_tables.proofs.Sum as sum
use Rattle.tpcc_tables.proofs.Enter.{entered_is_well_keyed}
use Rattle.tpcc_tables.proofs.Rising.{rising, first_number, waits_in, new_order_rises}
use Rattle.tpcc_tables.proofs.SumChanges.{with_lines, entered, as_delivered, IsMoreOf, more_delivered}
use Rattle.tpcc_tables.proofs.SumRanges.{all-filter, order_lines_most}

-- ---- columns that no sum reads

pub paid_rows : (rows : Rows) (h : HistoryRow) (information : Option (List ℕ)) (s : Sums) → AreSums (with_history rows h) s → AreSums (with_payment rows h information) s
unfolding with_payment
paid_rows rows h information s are =
    record {
      warehouses = are.warehouses ∙ sym (sum.map-updated_same (λ w. warehouse_sums (with_history rows h) w.id) (is_warehouse h.warehouse) (richer_warehouse h.amount) (λ w. refl) rows.warehouses);
      districts = are.districts ∙ sym (sum.map-updated_same (λ d. district_sums (with_history rows h) d.warehouse d.id) (is_district h.warehouse h.district) (richer_district h.amount) (λ d. refl) rows.districts);
      customers = are.customers ∙ sym (sum.map-updated_same (λ c. customer_sums (with_history rows h) c.warehouse c.district c.id) (is_customer h.customer_warehouse h.customer_district h.customer) (customer_after_payment h.amount information) (λ c. refl) rows.customers);
    }

pub entered_rows : (rows : Rows) (o : OrderRow) (lines : List OrderLineRow) (s : Sums) → AreSums (with_lines (with_order rows o) (inserted_all (by_key order_line_key) lines rows.order_lines)) s → AreSums (with_entered_order rows o lines) s
unfolding with_entered_order
entered_rows rows o lines s are =
    let more = with_lines (with_order rows o) (inserted_all (by_key order_line_key) lines rows.order_lines) in
    record {
      warehouses = are.warehouses;
      districts = are.districts ∙ sym (sum.map-updated_same (λ d. district_sums more d.warehouse d.id) (is_district o.warehouse o.district) with_next_order (λ d. refl) rows.districts);
      customers = are.customers;
    }

pub delivered_rows : (rows : Rows) (w d o carrier at : ℕ) (s : Sums) → AreSums (with_lines rows (updated (is_line_of w d o) (with_delivery_date at) rows.order_lines)) s → AreSums (after_delivery rows w d o carrier at) s
unfolding after_delivery
delivered_rows rows w d o carrier at s are =
    let stamps = with_lines rows (updated (is_line_of w d o) (with_delivery_date at) rows.order_lines) in
    let after = after_delivery rows w d o carrier at in
    let customer = (order_at rows w d o).customer in
    record {
      warehouses = are.warehouses;
      districts = are.districts
          ∙ sum.map-same (λ x. district_sums stamps x.warehouse x.id) (λ x. district_sums after x.warehouse x.id) (λ x i. record (district_sums stamps x.warehouse x.id) { counted_lines = sym (sum_by-updated_same (λ r. r.line_count) (λ r. (r.warehouse == x.warehouse) && (r.district == x.id)) (is_order w d o) (with_carrier carrier) (λ r. (refl, refl)) rows.orders) i }) rows.districts;
      customers = are.customers
          ∙ sum.map-same (λ c. customer_sums stamps c.warehouse c.district c.id) (λ c. customer_sums after c.warehouse c.district c.id) (λ c i. record (customer_sums stamps c.warehouse c.district c.id) {
            last_order = largest (sym (map-updated_same (λ r. r.id) (is_order_of c.warehouse c.district c.id) (is_order w d o) (with_carrier carrier) (λ r. (refl, refl)) rows.orders) i);
            delivered = sym (total-updated_same (delivered_amount stamps) (is_order_of c.warehouse c.district c.id) (is_order w d o) (with_carrier carrier) (λ r. (refl, refl)) rows.orders) i;
          }) rows.customers
          ∙ sym (sum.map-updated_same (λ c. customer_sums after c.warehouse c.district c.id) (is_customer w d customer) (delivered_customer (order_amount rows w d o)) (λ c. refl) rows.customers);
    }

-- ---- lines of an order

lines_apart : (w d o x y z u v n : ℕ) → ((x == w) && (y == d) && (z == o)) ≡ false → ((u == w) && (v == d) && (n == o)) ≡ true → ((u == x) && (v == y) && (n == z)) ≡ false
lines_apart w d o x y z u v n other here = grind (arith, nat_tests)

-- the lines that are delivered, and those that are not
either_way : (a b : Bool) (v t s u : ℤ) → t ≡ s +ℤ u → (if a then v +ℤ t else t) ≡ (if a && b then v +ℤ s else s) +ℤ (if a && beq b false then v +ℤ u else u)
either_way true true v t s u e = omega (arith, ints)
either_way true false v t s u e = omega (arith, ints)
either_way false b v t s u e = e

one_chosen : {X : Type 0} (column : X → ℤ) (q : X → Bool) (x : X) (xs : List X) → total column (filter q (x ∷ xs)) ≡ (if q x then column x +ℤ total column (filter q xs) else total column (filter q xs))
one_chosen column q x xs = sum.chosen (total column) (q x) (x ∷ filter q xs) (filter q xs)

both_ways : {X : Type 0} (column : X → ℤ) (p done : X → Bool) (xs : List X) → total column (filter p xs) ≡ total column (filter (λ x. p x && done x) xs) +ℤ total column (filter (λ x. p x && beq (done x) false) xs)
both_ways column p done [] = omega (arith, ints)
both_ways column p done (x ∷ xs) =
    one_chosen column p x xs
    ∙ either_way (p x) (done x) (column x) (total column (filter p xs)) (total column (filter (λ y. p y && done y) xs)) (total column (filter (λ y. p y && beq (done y) false) xs)) (both_ways column p done xs)
    ∙ (λ i. sym (one_chosen column (λ y. p y && done y) x xs) i +ℤ sym (one_chosen column (λ y. p y && beq (done y) false) x xs) i)

all_lines : {X : Type 0} (column : X → ℤ) (p done : X → Bool) (xs : List X) → total column (filter p xs) ≡ total column (filter (λ x. p x && done x) xs) +ℤ total column (filter (λ x. beq (done x) false) (filter p xs))
all_lines column p done xs =
    both_ways column p done xs ∙ ap (λ ys. total column (filter (λ x. p x && done x) xs) +ℤ total column ys) (sym (filter-twice (λ x. beq (done x) false) p xs))

one_order : (rows : Rows) (w d o : ℕ) → IsKeyed rows → is_some (find_order rows w d o) ≡ true → has_one (is_order w d o) rows.orders ≡ true
one_order rows w d o keyed found = one_of_key order_key (is_order w d o) (orders_apart w d o) rows.orders keyed.orders found

-- a delivery
pub stamped_more : (rows : Rows) (w d o at : ℕ) (order : OrderRow) → IsKeyed rows → find_order rows w d o ≡ Some order → IsMoreOf rows (updated (is_line_of w d o) (with_delivery_date at) rows.order_lines) w d o (total (λ l. l.amount) (filter (λ l. beq (is_some l.delivered) false) (lines_of rows w d o))) order
stamped_more rows w d o at order keyed found =
    let after = updated (is_line_of w d o) (with_delivery_date at) rows.order_lines in
    record {
      found = found;
      one = one_order rows w d o keyed (ap is_some found);
      others = λ r other. total-updated_none (λ l. l.amount) (λ l. is_line_of r.warehouse r.district r.id l && is_some l.delivered) (is_line_of w d o) (with_delivery_date at)
          (λ l here. let apart = lines_apart w d o r.warehouse r.district r.id l.warehouse l.district l.order other here in (ap (λ b. b && is_some l.delivered) apart, ap (λ b. b && true) apart)) rows.order_lines;
      this = λ r this.
          let same = all_equal r.warehouse w r.district d r.id o this in
          (λ i. total (λ l. l.amount) (filter (λ l. is_line_of (same.0 i) (same.1 i) (same.2 i) l && is_some l.delivered) after))
          ∙ total-updated_all (λ l. l.amount) (is_line_of w d o) (λ l. is_some l.delivered) (with_delivery_date at) (λ l here. (here, refl, refl)) rows.order_lines
          ∙ all_lines (λ l. l.amount) (is_line_of w d o) (λ l. is_some l.delivered) rows.order_lines
          ∙ (λ i. total (λ l. l.amount) (filter (λ l. is_line_of (sym same.0 i) (sym same.1 i) (sym same.2 i) l && is_some l.delivered) rows.order_lines) +ℤ total (λ l. l.amount) (filter (λ l. beq (is_some l.delivered) false) (lines_of rows w d o)));
    }

-- one line more
line_counted : (b done : Bool) (a t : ℤ) → b ≡ true → (if b && done then a +ℤ t else t) ≡ t +ℤ (if beq done true then a else pos 0)
line_counted true true a t e = omega (arith, ints)
line_counted true false a t e = omega (arith, ints)
line_counted false done a t e = cc

line_passed : (b done : Bool) (a t : ℤ) → b ≡ false → (if b && done then a +ℤ t else t) ≡ t
line_passed true done a t e = cc
line_passed false done a t e = refl

order_found : (o : Option OrderRow) → is_some o ≡ true → (r : OrderRow) × (o ≡ Some r)
order_found None e = absurd (true_is_false (sym e))
order_found (Some r) e = (r, refl)

line_is_of : (w d o x y z : ℕ) (b : Bool) → ((x == w) && (y == d) && (z == o)) ≡ b → ((w == x) && (d == y) && (o == z)) ≡ b
line_is_of w d o x y z true e = grind (arith, nat_tests)
line_is_of w d o x y z false e = grind (arith, nat_tests)

pub loaded_more : (rows : Rows) (l : OrderLineRow) (order : OrderRow) → IsKeyed rows → find_order rows l.warehouse l.district l.order ≡ Some order → IsMoreOf rows (inserted (by_key order_line_key) l rows.order_lines) l.warehouse l.district l.order (if beq (is_some l.delivered) true then l.amount else pos 0) order
loaded_more rows l order keyed found =
    let after = λ (r : OrderRow). total-inserted (by_key order_line_key) (λ x. x.amount) (λ x. is_line_of r.warehouse r.district r.id x && is_some x.delivered) l rows.order_lines in
    record {
      found = found;
      one = one_order rows l.warehouse l.district l.order keyed (ap is_some found);
      others = λ r other. after r ∙ line_passed (is_line_of r.warehouse r.district r.id l) (is_some l.delivered) l.amount (delivered_amount rows r) (line_is_of l.warehouse l.district l.order r.warehouse r.district r.id false other);
      this = λ r this. after r ∙ line_counted (is_line_of r.warehouse r.district r.id l) (is_some l.delivered) l.amount (delivered_amount rows r) (line_is_of l.warehouse l.district l.order r.warehouse r.district r.id true this);
    }

-- ---- a new order

-- has no lines yet
pub no_lines_yet : (rows : Rows) (o : OrderRow) → HasParents rows → is_some (find_order rows o.warehouse o.district o.id) ≡ false → delivered_amount rows o ≡ pos 0
no_lines_yet rows o parents none =
    ap (total (λ l. l.amount)) (filter-none (has_order_and_stock rows) (λ l. is_line_of o.warehouse o.district o.id l && is_some l.delivered)
    (λ l has. ap (λ b. b && is_some l.delivered) (by_contradiction (is_line_of o.warehouse o.district o.id l) (λ e.
    let same = all_equal l.warehouse o.warehouse l.district o.district l.order o.id e in
    true_is_false (sym (split _ _ has).0 ∙ (λ i. is_some (find_order rows (same.0 i) (same.1 i) (same.2 i))) ∙ none)))) rows.order_lines parents.order_lines)

and_none : (b : Bool) → (b && false) ≡ false
and_none true = refl
and_none false = refl

none_more : (t : ℤ) → t ≡ pos 0 +ℤ t
none_more t = omega (arith, ints)

-- the lines that come with it are not delivered
pub undelivered_lines : (rows : Rows) (o : OrderRow) (lines : List OrderLineRow) → IsOrder rows o lines → (r : OrderRow) → delivered_amount rows r ≡ delivered_amount (with_lines rows (inserted_all (by_key order_line_key) lines rows.order_lines)) r
undelivered_lines rows o lines k r =
    let q = λ (l : OrderLineRow). is_line_of r.warehouse r.district r.id l && is_some l.delivered in
    let none : filter q lines ≡ [] = ap (filter q) k.1.lines_are ∙ filter-map_none q (λ line. order_line_row rows k.0 line.0 line.1) (λ line. and_none (is_line_of r.warehouse r.district r.id (order_line_row rows k.0 line.0 line.1))) (enumerate_from 1 k.0.lines) in
    none_more (delivered_amount rows r)
    ∙ ap (λ ls. total (λ l. l.amount) ls +ℤ delivered_amount rows r) (sym none)
    ∙ sym (total-inserted_all (by_key order_line_key) (λ l. l.amount) q lines rows.order_lines)

-- ---- what the calls leave

-- an order that was found
more_at : (rows : Rows) (lines : List OrderLineRow) (w d o customer : ℕ) (a : ℤ) (old new : Sums) → ((order : OrderRow) → find_order rows w d o ≡ Some order → IsMoreOf rows lines w d o a order) → is_some (find_order rows w d o) ≡ true → customer ≡ (order_at rows w d o).customer → AreSums rows old → HasDelivered w d customer a old new → AreSums (with_lines rows lines) new
more_at rows lines w d o customer a old new more there whose are is =
    let x = order_found (find_order rows w d o) there in
    let his : customer ≡ x.0.customer = whose ∙ ap (λ (r : Option OrderRow). (unwrap_or r no_order).customer) x.1 in
    more_delivered rows lines w d o a x.0 (more x.0 x.1) old new are (subst (λ (c : ℕ). HasDelivered w d c a old new) his is)

pub line_loaded : (rows : Rows) (l : OrderLineRow) (customer : ℕ) (a : ℤ) (old new : Sums) → IsKeyed rows → is_some (find_order rows l.warehouse l.district l.order) ≡ true → customer ≡ (order_at rows l.warehouse l.district l.order).customer → a ≡ (if beq (is_some l.delivered) true then l.amount else pos 0) → AreSums rows old → HasDelivered l.warehouse l.district customer a old new → AreSums (with_order_line rows l) new
line_loaded rows l customer a old new keyed there whose amount are is =
    more_at rows (inserted (by_key order_line_key) l rows.order_lines) l.warehouse l.district l.order customer a old new
    (λ order found. subst (λ (b : ℤ). IsMoreOf rows (inserted (by_key order_line_key) l rows.order_lines) l.warehouse l.district l.order b order) (sym amount) (loaded_more rows l order keyed found)) there whose are is

pub order_delivered : (rows : Rows) (w d o carrier at customer : ℕ) (a : ℤ) (lines : List OrderLineRow) (old new : Sums) → IsKeyed rows → is_some (find_order rows w d o) ≡ true → customer ≡ (order_at rows w d o).customer → lines ≡ lines_of rows w d o → a ≡ total (λ l. l.amount) (filter (λ l. beq (is_some l.delivered) false) lines) → AreSums rows old → HasDelivered w d customer a old new → AreSums (after_delivery rows w d o carrier at) new
order_delivered rows w d o carrier at customer a lines old new keyed there whose its amount are is =
    let rest = amount ∙ ap (λ ls. total (λ l. l.amount) (filter (λ l. beq (is_some l.delivered) false) ls)) its in
    delivered_rows rows w d o carrier at new
    (more_at rows (updated (is_line_of w d o) (with_delivery_date at) rows.order_lines) w d o customer a old new
    (λ order found. subst (λ (b : ℤ). IsMoreOf rows (updated (is_line_of w d o) (with_delivery_date at) rows.order_lines) w d o b order) (sym rest) (stamped_more rows w d o at order keyed found)) there whose are is)

-- the number of an order that is entered is new
new_number : (rows : Rows) (o : OrderRow) (lines : List OrderLineRow) → IsOrder rows o lines → HasParents rows → is_some (find_order rows o.warehouse o.district o.id) ≡ false
new_number rows o lines k parents = subst (λ (x : OrderRow). is_some (find_order rows x.warehouse x.district x.id) ≡ false) (sym k.1.order_is) (no_old_order rows k.0 parents.numbers)

pub order_entered : (rows : Rows) (o : OrderRow) (lines : List OrderLineRow) (a : ℤ) (old new : Sums) → IsOrder rows o lines → HasParents rows → a ≡ pos 0 → AreSums rows old → HasEntered o a old new → AreSums (with_entered_order rows o lines) new
order_entered rows o lines a old new k parents zero are is =
    entered_rows rows o lines new
    (as_delivered (with_order rows o) (inserted_all (by_key order_line_key) lines rows.order_lines) new (undelivered_lines rows o lines k)
    (entered (by_key order_key) rows o a (no_lines_yet rows o parents (new_number rows o lines k parents) ∙ sym zero) old new are is))

pub entered_lines : (rows : Rows) (o : OrderRow) (lines : List OrderLineRow) → IsOrder rows o lines → IsWellKeyed rows → o.line_count ≤ 15
unfolding with_entered_order
entered_lines rows o lines k well =
    order_lines_most o (split (is_order_row o) _ (sym (list_all-inserted (by_key order_key) is_order_row o rows.orders) ∙ (entered_is_well_keyed rows o lines k well).ranges.orders)).0

-- the order of the oldest NEW-ORDER row
waiting_order : (rows : Rows) (w d o : ℕ) (waiting : List NewOrderRow) → list_all (waits_in w d) waiting ≡ true → list_all (has_order rows) waiting ≡ true → is_rising (map (λ n. n.order) waiting) ≡ true → smallest (map (λ n. n.order) waiting) ≡ Some o → is_some (find_order rows w d o) ≡ true
waiting_order rows w d o [] waits has up e = cc
waiting_order rows w d o (n ∷ waiting) waits has up e =
    let first : Some n.order ≡ Some o = sym (first_number (n.order ∷ map (λ m. m.order) waiting) up) ∙ e in
    let number : n.order ≡ o = cc in
    let key = both_equal n.warehouse w n.district d (split (waits_in w d n) (list_all (waits_in w d) waiting) waits).0 in
    (λ i. is_some (find_order rows (sym key.0 i) (sym key.1 i) (sym number i))) ∙ (split (has_order rows n) (list_all (has_order rows) waiting) has).0

all_chosen : {X : Type 0} (q : X → Bool) (xs : List X) → list_all q (filter q xs) ≡ true
all_chosen q [] = refl
all_chosen q (x ∷ xs) = grind (arith, all_chosen q xs)

pub oldest_there : (rows : Rows) (w d o : ℕ) → IsWellKeyed rows → oldest_new_order rows w d ≡ Some o → is_some (find_order rows w d o) ≡ true
oldest_there rows w d o well e =
    waiting_order rows w d o (filter (waits_in w d) rows.new_orders) (all_chosen (waits_in w d) rows.new_orders) (all-filter (has_order rows) (waits_in w d) rows.new_orders well.parents.new_orders)
    (rising new_order_key (λ n. n.order) (waits_in w d) (new_order_rises w d) rows.new_orders well.keyed.new_orders) e
