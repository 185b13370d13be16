-- The delivery of a district's oldest order keeps the conditions.
use Rattle.std.proofs.Common.{◌≡◌, ℕ, suc, ◌+◌, ◌<◌, ◌≤◌, ◌==◌, Bool, true, false, List, [], ◌∷◌, length, refl, sym, ap, ◌∙◌, arith}
use Rattle.std.specs.Prelude.{ℤ, pos, ◌+ℤ◌, ◌-ℤ◌, filter, map, max, if◌then◌else◌, ◌&&◌, ◌||◌, not, nat_lt, Option, Some, None, is_some, is_none, find, unwrap_or, option_map}
use Rattle.std.specs.List.{list_all}
use Rattle.std.specs.Bool.{beq}
use Rattle.std.specs.Ordering.{int_eq}
use Rattle.std.proofs.lemmas.Int.{ints}
use Rattle.std.proofs.lemmas.Bool.Decides.{nat_tests}
use Rattle.tpcc_money.specs.Amounts.{total}
use Rattle.tpcc_rows.specs.declared.tables.rows.DistrictRow.{DistrictRow}
use Rattle.tpcc_rows.specs.declared.tables.rows.CustomerRow.{CustomerRow}
use Rattle.tpcc_rows.specs.declared.tables.rows.OrderRow.{OrderRow}
use Rattle.tpcc_rows.specs.declared.tables.rows.OrderLineRow.{OrderLineRow}
use Rattle.tpcc_rows.specs.declared.tables.rows.NewOrderRow.{NewOrderRow}
use Rattle.tpcc_rows.specs.Lists.{updated, largest, smallest, larger, smaller, key_before, is_ascending}
use Rattle.tpcc_rows.specs.Tables.{Rows, is_district, is_order, is_line_of, is_new_order, is_customer, is_order_of, order_key, new_order_key, find_order, find_new_order, order_at, orders_in, orders_of, paid_by, no_order}
use Rattle.tpcc_rows.specs.WellKeyed.{IsKeyed, HasParents, has_order}
use Rattle.tpcc_rows.specs.Conditions.{IsConsistent, keeps_1, keeps_2, keeps_3, keeps_4, keeps_5, keeps_6, keeps_7, keeps_8, keeps_9, keeps_10, keeps_12, new_order_numbers, delivered_amount, delivered_to}
use Rattle.tpcc_rows.specs.Delivery.{after_delivery, oldest_new_order, order_amount, delivered_customer}
use Rattle.tpcc_laws.proofs.List.{has_one, one_of_key, list_all-mono, list_all-updated, find-none, filter-none, total-updated_none, total-updated_same, then_taken, else_taken}
use Rattle.tpcc_laws.proofs.Remove.{found_passes, filter-removed_other, find-removed_other, find-removed, find-updated_other, find-updated_self, length-updated_same, sum_by-updated_same, map-updated_same, total-updated_all, total-changed_one, is_rising, above-smallest, filter-above, rising-span}
use Rattle.tpcc_laws.proofs.OrderKeeps.{test_2, test_3, all_equal, both_equal, by_contradiction, true_is_false, first, second}
use Rattle.tpcc_laws.proofs.PaymentKeeps.{equal, as_equal}

abbrev pub with_carrier : ℕ → OrderRow → OrderRow
with_carrier carrier r = record r { carrier = Some carrier }

abbrev pub with_delivery_date : ℕ → OrderLineRow → OrderLineRow
with_delivery_date at l = record l { delivered = Some at }

-- ---- keys of three numbers

keys_apart : (a b c x y z u v w : ℕ) → ((a == x) && (b == y) && (c == z)) ≡ false → ((u == x) && (v == y) && (w == z)) ≡ true → ((u == a) && (v == b) && (w == c)) ≡ false
keys_apart a b c x y z u v w other here = grind (arith, nat_tests)

keys_same : (a b c x y z u v w : ℕ) → ((a == x) && (b == y) && (c == z)) ≡ true → ((u == a) && (v == b) && (w == c)) ≡ true → ((u == x) && (v == y) && (w == z)) ≡ true
keys_same a b c x y z u v w this here = grind (arith, nat_tests)

-- ---- conditions that look at counts

pub delivery_keeps_4 : (rows : Rows) (W D o carrier at : ℕ) → list_all (keeps_4 rows) rows.districts ≡ true → list_all (keeps_4 (after_delivery rows W D o carrier at)) rows.districts ≡ true
unfolding keeps_4 after_delivery
delivery_keeps_4 rows W D o carrier at h =
    list_all-mono (keeps_4 rows) (keeps_4 (after_delivery rows W D o carrier at))
    (λ d k. (λ i. sum_by-updated_same (λ r. r.line_count) (λ r. (r.warehouse == d.warehouse) && (r.district == d.id)) (is_order W D o) (with_carrier carrier) (λ r. (refl, refl)) rows.orders i == length-updated_same (λ l. (l.warehouse == d.warehouse) && (l.district == d.id)) (is_line_of W D o) (with_delivery_date at) (λ l. refl) rows.order_lines i) ∙ k)
    rows.districts h

pub delivery_keeps_6 : (rows : Rows) (W D o carrier at : ℕ) → list_all (keeps_6 rows) rows.orders ≡ true → list_all (keeps_6 (after_delivery rows W D o carrier at)) (updated (is_order W D o) (with_carrier carrier) rows.orders) ≡ true
unfolding keeps_6 after_delivery
delivery_keeps_6 rows W D o carrier at =
    list_all-updated (keeps_6 rows) (keeps_6 (after_delivery rows W D o carrier at)) (is_order W D o) (with_carrier carrier)
    (λ r k other. (λ i. r.line_count == length-updated_same (is_line_of r.warehouse r.district r.id) (is_line_of W D o) (with_delivery_date at) (λ l. refl) rows.order_lines i) ∙ k)
    (λ r k this. (λ i. r.line_count == length-updated_same (is_line_of r.warehouse r.district r.id) (is_line_of W D o) (with_delivery_date at) (λ l. refl) rows.order_lines i) ∙ k)
    rows.orders

-- ---- conditions 5 and 7

pub delivery_keeps_5 : (rows : Rows) (W D o carrier at : ℕ) → list_all (keeps_5 rows) rows.orders ≡ true → list_all (keeps_5 (after_delivery rows W D o carrier at)) (updated (is_order W D o) (with_carrier carrier) rows.orders) ≡ true
unfolding keeps_5 after_delivery
delivery_keeps_5 rows W D o carrier at =
    list_all-updated (keeps_5 rows) (keeps_5 (after_delivery rows W D o carrier at)) (is_order W D o) (with_carrier carrier)
    (λ r k other. (λ i. beq (is_none r.carrier) (is_some (find-removed_other (is_new_order r.warehouse r.district r.id) (is_new_order W D o) (λ n here. keys_apart r.warehouse r.district r.id W D o n.warehouse n.district n.order other here) rows.new_orders i))) ∙ k)
    (λ r k this i. beq false (find-removed (is_new_order r.warehouse r.district r.id) (is_new_order W D o) (λ n here. keys_same r.warehouse r.district r.id W D o n.warehouse n.district n.order this here) rows.new_orders i))
    rows.orders

carrier_of : (r : Option OrderRow) (carrier : ℕ) → is_some r ≡ true → is_none (unwrap_or (option_map (with_carrier carrier) r) no_order).carrier ≡ false
carrier_of None carrier e = cc
carrier_of (Some r) carrier e = refl

pub delivery_keeps_7 : (rows : Rows) (W D o carrier at : ℕ) → is_some (find_order rows W D o) ≡ true → list_all (keeps_7 rows) rows.order_lines ≡ true → list_all (keeps_7 (after_delivery rows W D o carrier at)) (updated (is_line_of W D o) (with_delivery_date at) rows.order_lines) ≡ true
unfolding keeps_7 after_delivery
delivery_keeps_7 rows W D o carrier at found =
    list_all-updated (keeps_7 rows) (keeps_7 (after_delivery rows W D o carrier at)) (is_line_of W D o) (with_delivery_date at)
    (λ l k other. (λ i. beq (is_none l.delivered) (is_none (unwrap_or (find-updated_other (is_order l.warehouse l.district l.order) (is_order W D o) (with_carrier carrier) (λ r here. (keys_apart l.warehouse l.district l.order W D o r.warehouse r.district r.id other here, keys_apart l.warehouse l.district l.order W D o r.warehouse r.district r.id other here)) rows.orders i) no_order).carrier)) ∙ k)
    (λ l k this.
    let same = all_equal l.warehouse W l.district D l.order o this in
    (λ i. beq false (is_none (unwrap_or (find (is_order (same.0 i) (same.1 i) (same.2 i)) (updated (is_order W D o) (with_carrier carrier) rows.orders)) no_order).carrier))
    ∙ (λ i. beq false (is_none (unwrap_or (find-updated_self (is_order W D o) (with_carrier carrier) (λ r. refl) rows.orders i) no_order).carrier))
    ∙ (λ i. beq false (carrier_of (find_order rows W D o) carrier found i)))
    rows.order_lines

-- ---- the oldest NEW-ORDER row and its order

smaller_other : (n : ℕ) (s : Option ℕ) (o : ℕ) → (n == o) ≡ false → smaller n s ≡ o → s ≡ Some o
smaller_other n None o other e = absurd (grind (arith, nat_tests))
smaller_other n (Some m) o other e = let m_is : m ≡ o = grind (arith, nat_tests) in ap Some m_is

some_is : (a b : ℕ) → Some a ≡ Some b → a ≡ b
some_is a b e = cc

-- a smallest number is the number of some row
smallest_found : {X : Type 0} (f : X → ℕ) (q : X → Bool) (xs : List X) (o : ℕ) → smallest (map f (filter q xs)) ≡ Some o → is_some (find (λ x. q x && (f x == o)) xs) ≡ true
smallest_found f q [] o e = cc
smallest_found f q (x ∷ xs) o e = grind (arith, smaller_other (f x) (smallest (map f (filter q xs))) o, some_is (smaller (f x) (smallest (map f (filter q xs)))) o, smallest_found f q xs o)

new_order_found : (rows : Rows) (W D o : ℕ) → oldest_new_order rows W D ≡ Some o → is_some (find_new_order rows W D o) ≡ true
new_order_found rows W D o e = smallest_found (λ n. n.order) (λ n. (n.warehouse == W) && (n.district == D)) rows.new_orders o e

-- its order exists
pub not_new_order : (rows : Rows) (W D o : ℕ) → is_some (find_order rows W D o) ≡ false → (n : NewOrderRow) → has_order rows n ≡ true → is_new_order W D o n ≡ false
not_new_order rows W D o none n h =
    by_contradiction (is_new_order W D o n) (λ e.
    let same = all_equal n.warehouse W n.district D n.order o e in
    let missing : has_order rows n ≡ false = (λ i. is_some (find_order rows (same.0 i) (same.1 i) (same.2 i))) ∙ none in
    true_is_false (sym h ∙ missing))

is_true : (b : Bool) → (b ≡ false → ⊥) → b ≡ true
is_true true h = refl
is_true false h = absurd (h refl)

order_found : (rows : Rows) (W D o : ℕ) → HasParents rows → oldest_new_order rows W D ≡ Some o → is_some (find_order rows W D o) ≡ true
order_found rows W D o parents e =
    is_true (is_some (find_order rows W D o)) (λ none. true_is_false (sym (new_order_found rows W D o e) ∙ find-none (has_order rows) (is_new_order W D o) (not_new_order rows W D o none) rows.new_orders parents.new_orders))

order_keys_apart : (a b : OrderRow) (W D o : ℕ) → is_order W D o a ≡ true → is_order W D o b ≡ true → key_before (order_key a) (order_key b) ≡ false
order_keys_apart a b W D o ea eb = grind (arith, nat_tests)

one_order : (rows : Rows) (W D o : ℕ) → IsKeyed rows → is_some (find_order rows W D o) ≡ true → has_one (is_order W D o) rows.orders ≡ true
one_order rows W D o keyed found = one_of_key order_key (is_order W D o) (λ a b. order_keys_apart a b W D o) rows.orders keyed.orders found

-- ---- the numbers of a district

below_in : (w d xw xd xo yw yd yo : ℕ) → ((xw == w) && (xd == d)) ≡ true → ((yw == w) && (yd == d)) ≡ true → key_before (xw ∷ xd ∷ xo ∷ []) (yw ∷ yd ∷ yo ∷ []) ≡ true → nat_lt xo yo ≡ true
below_in w d xw xd xo yw yd yo here there h = grind (arith, nat_tests)

rising_above : (w d : ℕ) (x : NewOrderRow) (xs : List NewOrderRow) → ((x.warehouse == w) && (x.district == d)) ≡ true → list_all (λ later. key_before (new_order_key x) (new_order_key later)) xs ≡ true → list_all (nat_lt x.order) (map (λ n. n.order) (filter (λ n. (n.warehouse == w) && (n.district == d)) xs)) ≡ true
rising_above w d x [] here h = refl
rising_above w d x (y ∷ xs) here h = grind (arith, below_in w d x.warehouse x.district x.order y.warehouse y.district y.order here, rising_above w d x xs here)

rising_numbers : (w d : ℕ) (xs : List NewOrderRow) → is_ascending new_order_key xs ≡ true → is_rising (map (λ n. n.order) (filter (λ n. (n.warehouse == w) && (n.district == d)) xs)) ≡ true
rising_numbers w d [] h = refl
rising_numbers w d (x ∷ xs) h = grind (arith, rising_above w d x xs, rising_numbers w d xs)

numbers_without : {X : Type 0} (f : X → ℕ) (q : X → Bool) (o : ℕ) (xs : List X) → map f (filter q (filter (λ x. not (q x && (f x == o))) xs)) ≡ filter (λ m. not (m == o)) (map f (filter q xs))
numbers_without f q o [] = refl
numbers_without f q o (x ∷ xs) = grind (arith, numbers_without f q o xs)

-- conditions 2 and 3 without the smallest number
first_is_smallest : (n o : ℕ) (ns : List ℕ) → is_rising (n ∷ ns) ≡ true → smallest (n ∷ ns) ≡ Some o → n ≡ o
first_is_smallest n o ns rising e =
    let above : list_all (nat_lt n) ns ≡ true = first (list_all (nat_lt n) ns) (is_rising ns) rising in
    sym (above-smallest n ns above) ∙ some_is (smaller n (smallest ns)) o e

drops_first : (n : ℕ) (ns : List ℕ) → filter (λ m. not (m == n)) (n ∷ ns) ≡ filter (λ m. not (m == n)) ns
drops_first n ns = grind (arith, nat_tests)

rest_of : (n o : ℕ) (ns : List ℕ) → is_rising (n ∷ ns) ≡ true → smallest (n ∷ ns) ≡ Some o → filter (λ m. not (m == o)) (n ∷ ns) ≡ ns
rest_of n o ns rising e =
    let same = first_is_smallest n o ns rising e in
    let above : list_all (nat_lt n) ns ≡ true = first (list_all (nat_lt n) ns) (is_rising ns) rising in
    let kept = filter-above n ns above in
    (λ i. filter (λ m. not (m == sym same i)) (n ∷ ns)) ∙ drops_first n ns ∙ kept

-- the largest number stays
larger_grows : (n m : ℕ) (s : Option ℕ) → n < m → larger m s ≡ max n (larger m s)
larger_grows n m None lt = omega arith
larger_grows n m (Some k) lt = omega arith

first_below : (n m : ℕ) (ms : List ℕ) → is_rising (n ∷ m ∷ ms) ≡ true → n < m
first_below n m ms rising = grind (arith, nat_tests)

rest_rises : (n : ℕ) (ns : List ℕ) → is_rising (n ∷ ns) ≡ true → is_rising ns ≡ true
rest_rises n ns rising = second (list_all (nat_lt n) ns) (is_rising ns) rising

core_2_none : (next big newest : ℕ) → ((next == big + 1) && ((1 == 0) || (next == newest + 1))) ≡ true → ((next == big + 1) && ((0 == 0) || (next == 0 + 1))) ≡ true
core_2_none next big newest h = grind (arith, nat_tests)

core_2_some : (next big newest len : ℕ) → ((next == big + 1) && ((suc (suc len) == 0) || (next == newest + 1))) ≡ true → ((next == big + 1) && ((suc len == 0) || (next == newest + 1))) ≡ true
core_2_some next big newest len h = grind (arith, nat_tests)

without_2 : (next : ℕ) (big : Option ℕ) (ns : List ℕ) (o : ℕ) → is_rising ns ≡ true → smallest ns ≡ Some o → test_2 next big (length ns) (largest ns) ≡ true → test_2 next big (length (filter (λ m. not (m == o)) ns)) (largest (filter (λ m. not (m == o)) ns)) ≡ true
without_2 next big [] o rising e h = cc
without_2 next big (n ∷ []) o rising e h =
    (λ i. test_2 next big (length (rest_of n o [] rising e i)) (largest (rest_of n o [] rising e i))) ∙ core_2_none next (unwrap_or big 0) n h
without_2 next big (n ∷ m ∷ ms) o rising e h =
    (λ i. test_2 next big (length (rest_of n o (m ∷ ms) rising e i)) (largest (rest_of n o (m ∷ ms) rising e i)))
    ∙ (λ i. test_2 next big (suc (length ms)) (Some (larger_grows n m (largest ms) (first_below n m ms rising) i)))
    ∙ core_2_some next (unwrap_or big 0) (larger n (largest (m ∷ ms))) (length ms) h

core_3_some : (newest n m len s t : ℕ) → newest ≡ max n newest → n < m → s ≡ m → t ≡ n → m + suc len ≤ newest + 1 → ((suc (suc len) == 0) || (max n newest + 1 == t + suc (suc len))) ≡ true → ((suc len == 0) || (newest + 1 == s + suc len)) ≡ true
core_3_some newest n m len s t grows below is_m is_n span h = grind (arith, nat_tests)

without_3 : (ns : List ℕ) (o : ℕ) → is_rising ns ≡ true → smallest ns ≡ Some o → test_3 (largest ns) (smallest ns) (length ns) ≡ true → test_3 (largest (filter (λ m. not (m == o)) ns)) (smallest (filter (λ m. not (m == o)) ns)) (length (filter (λ m. not (m == o)) ns)) ≡ true
without_3 [] o rising e h = cc
without_3 (n ∷ []) o rising e h = λ i. test_3 (largest (rest_of n o [] rising e i)) (smallest (rest_of n o [] rising e i)) (length (rest_of n o [] rising e i))
without_3 (n ∷ m ∷ ms) o rising e h =
    let rest = rest_rises n (m ∷ ms) rising in
    let at_first : smaller n (smallest (m ∷ ms)) ≡ n = above-smallest n (m ∷ ms) (first (list_all (nat_lt n) (m ∷ ms)) (is_rising (m ∷ ms)) rising) in
    let at_second : smaller m (smallest ms) ≡ m = above-smallest m ms (first (list_all (nat_lt m) ms) (is_rising ms) rest) in
    (λ i. test_3 (largest (rest_of n o (m ∷ ms) rising e i)) (smallest (rest_of n o (m ∷ ms) rising e i)) (length (rest_of n o (m ∷ ms) rising e i)))
    ∙ core_3_some (larger m (largest ms)) n m (length ms) (smaller m (smallest ms)) (smaller n (smallest (m ∷ ms))) (larger_grows n m (largest ms) (first_below n m ms rising)) (first_below n m ms rising) at_second at_first (rising-span m ms rest) h

-- ---- conditions 2 and 3

pair_apart : (a b x y u v : ℕ) → ((a == x) && (b == y)) ≡ false → (z w : ℕ) → ((u == x) && (v == y) && (w == z)) ≡ true → ((u == a) && (v == b)) ≡ false
pair_apart a b x y u v other z w here = grind (arith, nat_tests)

numbers_other : (rows : Rows) (W D o carrier at : ℕ) (d : DistrictRow) → is_district W D d ≡ false → new_order_numbers (after_delivery rows W D o carrier at) d ≡ new_order_numbers rows d
unfolding after_delivery
numbers_other rows W D o carrier at d other =
    ap (map (λ n. n.order)) (filter-removed_other (λ n. (n.warehouse == d.warehouse) && (n.district == d.id)) (is_new_order W D o) (λ n here. pair_apart d.warehouse d.id W D n.warehouse n.district other o n.order here) rows.new_orders)

numbers_this : (rows : Rows) (W D o carrier at : ℕ) (d : DistrictRow) → is_district W D d ≡ true → new_order_numbers (after_delivery rows W D o carrier at) d ≡ filter (λ m. not (m == o)) (new_order_numbers rows d)
unfolding after_delivery
numbers_this rows W D o carrier at d this =
    let same = both_equal d.warehouse W d.id D this in
    (λ i. map (λ n. n.order) (filter (λ n. (n.warehouse == d.warehouse) && (n.district == d.id)) (filter (λ n. not (is_new_order (sym same.0 i) (sym same.1 i) o n)) rows.new_orders)))
    ∙ numbers_without (λ n. n.order) (λ n. (n.warehouse == d.warehouse) && (n.district == d.id)) o rows.new_orders

orders_same : (rows : Rows) (W D o carrier at : ℕ) (d : DistrictRow) → map (λ r. r.id) (orders_in (after_delivery rows W D o carrier at) d.warehouse d.id) ≡ map (λ r. r.id) (orders_in rows d.warehouse d.id)
unfolding after_delivery
orders_same rows W D o carrier at d = map-updated_same (λ r. r.id) (λ r. (r.warehouse == d.warehouse) && (r.district == d.id)) (is_order W D o) (with_carrier carrier) (λ r. (refl, refl)) rows.orders

oldest_of : (rows : Rows) (W D o : ℕ) (d : DistrictRow) → is_district W D d ≡ true → oldest_new_order rows W D ≡ Some o → smallest (new_order_numbers rows d) ≡ Some o
oldest_of rows W D o d this e = let same = both_equal d.warehouse W d.id D this in (λ i. oldest_new_order rows (same.0 i) (same.1 i)) ∙ e

keeps_2_at : (rows : Rows) (W D o carrier at : ℕ) → IsKeyed rows → oldest_new_order rows W D ≡ Some o → (d : DistrictRow) (b : Bool) → is_district W D d ≡ b → keeps_2 rows d ≡ true → keeps_2 (after_delivery rows W D o carrier at) d ≡ true
unfolding keeps_2
keeps_2_at rows W D o carrier at keyed e d true this k =
    (λ i. test_2 d.next_order (largest (orders_same rows W D o carrier at d i)) (length (numbers_this rows W D o carrier at d this i)) (largest (numbers_this rows W D o carrier at d this i)))
    ∙ without_2 d.next_order (largest (map (λ r. r.id) (orders_in rows d.warehouse d.id))) (new_order_numbers rows d) o (rising_numbers d.warehouse d.id rows.new_orders keyed.new_orders) (oldest_of rows W D o d this e) k
keeps_2_at rows W D o carrier at keyed e d false other k =
    (λ i. test_2 d.next_order (largest (orders_same rows W D o carrier at d i)) (length (numbers_other rows W D o carrier at d other i)) (largest (numbers_other rows W D o carrier at d other i))) ∙ k

keeps_3_at : (rows : Rows) (W D o carrier at : ℕ) → IsKeyed rows → oldest_new_order rows W D ≡ Some o → (d : DistrictRow) (b : Bool) → is_district W D d ≡ b → keeps_3 rows d ≡ true → keeps_3 (after_delivery rows W D o carrier at) d ≡ true
unfolding keeps_3
keeps_3_at rows W D o carrier at keyed e d true this k =
    (λ i. test_3 (largest (numbers_this rows W D o carrier at d this i)) (smallest (numbers_this rows W D o carrier at d this i)) (length (numbers_this rows W D o carrier at d this i)))
    ∙ without_3 (new_order_numbers rows d) o (rising_numbers d.warehouse d.id rows.new_orders keyed.new_orders) (oldest_of rows W D o d this e) k
keeps_3_at rows W D o carrier at keyed e d false other k =
    (λ i. test_3 (largest (numbers_other rows W D o carrier at d other i)) (smallest (numbers_other rows W D o carrier at d other i)) (length (numbers_other rows W D o carrier at d other i))) ∙ k

-- ---- conditions 10 and 12

by_key_of_three : (rows : Rows) (r : OrderRow) (W D o : ℕ) → is_order W D o r ≡ true → find_new_order rows r.warehouse r.district r.id ≡ find_new_order rows W D o
by_key_of_three rows r W D o this = let same = all_equal r.warehouse W r.district D r.id o this in λ i. find_new_order rows (same.0 i) (same.1 i) (same.2 i)

no_carrier_if : (c : Bool) → beq c true ≡ true → c ≡ true
no_carrier_if true e = refl
no_carrier_if false e = e

-- the order of a NEW-ORDER row has no carrier, and its lines no date
no_carrier : (rows : Rows) (W D o : ℕ) (r : OrderRow) → find_order rows W D o ≡ Some r → list_all (keeps_5 rows) rows.orders ≡ true → is_some (find_new_order rows W D o) ≡ true → is_none (order_at rows W D o).carrier ≡ true
unfolding keeps_5
no_carrier rows W D o r found h new =
    let facts = found_passes (is_order W D o) (keeps_5 rows) rows.orders r found h in
    (λ i. is_none (unwrap_or (found i) no_order).carrier)
    ∙ no_carrier_if (is_none r.carrier) ((λ i. beq (is_none r.carrier) ((sym new ∙ ap is_some (sym (by_key_of_three rows r W D o facts.0))) i)) ∙ facts.1)

some_not_none : (x : Option ℕ) → is_none x ≡ true → is_some x ≡ false
some_not_none None e = refl
some_not_none (Some n) e = cc

and_none : (a b : Bool) → (a ≡ true → b ≡ false) → (a && b) ≡ false
and_none true b h = h refl
and_none false b h = refl

no_carrier_no_amount : (rows : Rows) (W D o : ℕ) → is_none (order_at rows W D o).carrier ≡ true → list_all (keeps_7 rows) rows.order_lines ≡ true → total (λ l. l.amount) (filter (λ l. is_line_of W D o l && is_some l.delivered) rows.order_lines) ≡ pos 0
unfolding keeps_7
no_carrier_no_amount rows W D o none h =
    ap (total (λ l. l.amount)) (filter-none (keeps_7 rows) (λ l. is_line_of W D o l && is_some l.delivered)
    (λ l k. and_none (is_line_of W D o l) (is_some l.delivered) (λ this.
    let same = all_equal l.warehouse W l.district D l.order o this in
    some_not_none l.delivered (no_carrier_if (is_none l.delivered) ((λ i. beq (is_none l.delivered) ((sym none ∙ (λ j. is_none (order_at rows (sym same.0 j) (sym same.1 j) (sym same.2 j)).carrier)) i)) ∙ k))))
    rows.order_lines h)

amount_other : (rows : Rows) (W D o carrier at : ℕ) (r : OrderRow) → is_order W D o r ≡ false → delivered_amount (after_delivery rows W D o carrier at) r ≡ delivered_amount rows r
unfolding after_delivery
amount_other rows W D o carrier at r other =
    total-updated_none (λ l. l.amount) (λ l. is_line_of r.warehouse r.district r.id l && is_some l.delivered) (is_line_of W D o) (with_delivery_date at)
    (λ l here.
    let apart = keys_apart r.warehouse r.district r.id W D o l.warehouse l.district l.order other here in
    (ap (λ b. b && is_some l.delivered) apart, ap (λ b. b && true) apart))
    rows.order_lines

zero_and : (x t : ℤ) → x ≡ pos 0 → t ≡ x +ℤ t
zero_and x t e = omega (arith, ints)

amount_this : (rows : Rows) (W D o carrier at : ℕ) → is_none (order_at rows W D o).carrier ≡ true → list_all (keeps_7 rows) rows.order_lines ≡ true → (r : OrderRow) → is_order W D o r ≡ true → delivered_amount (after_delivery rows W D o carrier at) r ≡ delivered_amount rows r +ℤ order_amount rows W D o
unfolding after_delivery
amount_this rows W D o carrier at none h r this =
    let same = all_equal r.warehouse W r.district D r.id o this in
    let after : total (λ l. l.amount) (filter (λ l. is_line_of W D o l && is_some l.delivered) (updated (is_line_of W D o) (with_delivery_date at) rows.order_lines)) ≡ order_amount rows W D o =
    total-updated_all (λ l. l.amount) (is_line_of W D o) (λ l. is_some l.delivered) (with_delivery_date at) (λ l here. (here, refl, refl)) rows.order_lines in
    let before : delivered_amount rows r ≡ pos 0 =
    (λ i. total (λ l. l.amount) (filter (λ l. is_line_of (same.0 i) (same.1 i) (same.2 i) l && is_some l.delivered) rows.order_lines)) ∙ no_carrier_no_amount rows W D o none h in
    (λ i. total (λ l. l.amount) (filter (λ l. is_line_of (same.0 i) (same.1 i) (same.2 i) l && is_some l.delivered) (updated (is_line_of W D o) (with_delivery_date at) rows.order_lines)))
    ∙ after ∙ zero_and (delivered_amount rows r) (order_amount rows W D o) before

orders_after_delivery : (rows : Rows) (W D o carrier at : ℕ) (c : CustomerRow) → delivered_to (after_delivery rows W D o carrier at) c ≡ total (delivered_amount (after_delivery rows W D o carrier at)) (orders_of rows c.warehouse c.district c.id)
unfolding after_delivery
orders_after_delivery rows W D o carrier at c =
    total-updated_same (delivered_amount (after_delivery rows W D o carrier at)) (is_order_of c.warehouse c.district c.id) (is_order W D o) (with_carrier carrier) (λ r. (refl, refl)) rows.orders

-- what is known of a delivered order
pub record Known (rows : Rows) (W D o : ℕ) : Type 0 where
  pub order : OrderRow
  pub found : find_order rows W D o ≡ Some order
  pub one : has_one (is_order W D o) rows.orders ≡ true
  pub here : is_order W D o order ≡ true
  pub none : is_none (order_at rows W D o).carrier ≡ true

delivered_to_after : (rows : Rows) (W D o carrier at : ℕ) (known : Known rows W D o) → list_all (keeps_7 rows) rows.order_lines ≡ true → (c : CustomerRow) → delivered_to (after_delivery rows W D o carrier at) c ≡ (if is_order_of c.warehouse c.district c.id known.order then delivered_to rows c +ℤ order_amount rows W D o else delivered_to rows c)
delivered_to_after rows W D o carrier at known h c =
    orders_after_delivery rows W D o carrier at c
    ∙ total-changed_one (delivered_amount (after_delivery rows W D o carrier at)) (delivered_amount rows) (is_order W D o) (is_order_of c.warehouse c.district c.id) (order_amount rows W D o) (amount_other rows W D o carrier at) (amount_this rows W D o carrier at known.none h) rows.orders known.one known.order known.found

customer_apart : (yw yd yi W D o cw cd ci k : ℕ) (b : Bool) → ((yw == W) && (yd == D) && (yi == o)) ≡ true → ((cw == W) && (cd == D) && (ci == k)) ≡ b → ((yw == cw) && (yd == cd) && (k == ci)) ≡ b
customer_apart yw yd yi W D o cw cd ci k true here this = grind (arith, nat_tests)
customer_apart yw yd yi W D o cw cd ci k false here other = grind (arith, nat_tests)

risen_10 : (b d d' t a : ℤ) → int_eq b (d -ℤ t) ≡ true → d' ≡ d +ℤ a → int_eq (b +ℤ a) (d' -ℤ t) ≡ true
risen_10 b d d' t a h e = let same = equal b (d -ℤ t) h in as_equal (b +ℤ a) (d' -ℤ t) (omega (arith, ints))

risen_12 : (b y d d' a : ℤ) → int_eq (b +ℤ y) d ≡ true → d' ≡ d +ℤ a → int_eq ((b +ℤ a) +ℤ y) d' ≡ true
risen_12 b y d d' a h e = let same = equal (b +ℤ y) d h in as_equal ((b +ℤ a) +ℤ y) d' (omega (arith, ints))

-- whose order it is
its_customer : (rows : Rows) (W D o : ℕ) (known : Known rows W D o) → (order_at rows W D o).customer ≡ known.order.customer
its_customer rows W D o known i = (unwrap_or (known.found i) no_order).customer

of_customer : (rows : Rows) (W D o : ℕ) (known : Known rows W D o) (c : CustomerRow) (b : Bool) → is_customer W D (order_at rows W D o).customer c ≡ b → is_order_of c.warehouse c.district c.id known.order ≡ b
of_customer rows W D o known c b e =
    customer_apart known.order.warehouse known.order.district known.order.id W D o c.warehouse c.district c.id known.order.customer b known.here
    ((λ i. is_customer W D (sym (its_customer rows W D o known) i) c) ∙ e)

paid_total : (rows : Rows) (W D o carrier at : ℕ) (c : CustomerRow) → total (λ h. h.amount) (paid_by (after_delivery rows W D o carrier at) c.warehouse c.district c.id) ≡ total (λ h. h.amount) (paid_by rows c.warehouse c.district c.id)
unfolding after_delivery
paid_total rows W D o carrier at c = refl

pub delivery_keeps_10 : (rows : Rows) (W D o carrier at : ℕ) (known : Known rows W D o) → list_all (keeps_7 rows) rows.order_lines ≡ true → list_all (keeps_10 rows) rows.customers ≡ true → list_all (keeps_10 (after_delivery rows W D o carrier at)) (updated (is_customer W D (order_at rows W D o).customer) (delivered_customer (order_amount rows W D o)) rows.customers) ≡ true
unfolding keeps_10
delivery_keeps_10 rows W D o carrier at known h7 =
    list_all-updated (keeps_10 rows) (keeps_10 (after_delivery rows W D o carrier at)) (is_customer W D (order_at rows W D o).customer) (delivered_customer (order_amount rows W D o))
    (λ c k other. (λ i. int_eq c.balance ((delivered_to_after rows W D o carrier at known h7 c ∙ else_taken _ _ _ (of_customer rows W D o known c false other)) i -ℤ paid_total rows W D o carrier at c i)) ∙ k)
    (λ c k this. (λ i. int_eq (c.balance +ℤ order_amount rows W D o) (delivered_to (after_delivery rows W D o carrier at) c -ℤ paid_total rows W D o carrier at c i)) ∙ risen_10 c.balance (delivered_to rows c) (delivered_to (after_delivery rows W D o carrier at) c) (total (λ h. h.amount) (paid_by rows c.warehouse c.district c.id)) (order_amount rows W D o) k (delivered_to_after rows W D o carrier at known h7 c ∙ then_taken _ _ _ (of_customer rows W D o known c true this)))
    rows.customers

pub delivery_keeps_12 : (rows : Rows) (W D o carrier at : ℕ) (known : Known rows W D o) → list_all (keeps_7 rows) rows.order_lines ≡ true → list_all (keeps_12 rows) rows.customers ≡ true → list_all (keeps_12 (after_delivery rows W D o carrier at)) (updated (is_customer W D (order_at rows W D o).customer) (delivered_customer (order_amount rows W D o)) rows.customers) ≡ true
unfolding keeps_12
delivery_keeps_12 rows W D o carrier at known h7 =
    list_all-updated (keeps_12 rows) (keeps_12 (after_delivery rows W D o carrier at)) (is_customer W D (order_at rows W D o).customer) (delivered_customer (order_amount rows W D o))
    (λ c k other. (λ i. int_eq (c.balance +ℤ c.ytd_payment) ((delivered_to_after rows W D o carrier at known h7 c ∙ else_taken _ _ _ (of_customer rows W D o known c false other)) i)) ∙ k)
    (λ c k this. risen_12 c.balance c.ytd_payment (delivered_to rows c) (delivered_to (after_delivery rows W D o carrier at) c) (order_amount rows W D o) k (delivered_to_after rows W D o carrier at known h7 c ∙ then_taken _ _ _ (of_customer rows W D o known c true this)))
    rows.customers

-- a look-up that finds something
pub some_of : {X : Type 0} (r : Option X) → is_some r ≡ true → (x : X) × (r ≡ Some x)
some_of None e = absurd (true_is_false (sym e))
some_of (Some x) e = (x, refl)

pub known_of : (rows : Rows) (W D o : ℕ) → IsKeyed rows → HasParents rows → IsConsistent rows → oldest_new_order rows W D ≡ Some o → Known rows W D o
known_of rows W D o keyed parents h e =
    let found = order_found rows W D o parents e in
    let it = some_of (find_order rows W D o) found in
    record {
      order = it.0;
      found = it.1;
      one = one_order rows W D o keyed found;
      here = (found_passes (is_order W D o) (keeps_5 rows) rows.orders it.0 it.1 h.condition_5).0;
      none = no_carrier rows W D o it.0 it.1 h.condition_5 (new_order_found rows W D o e);
    }

-- a delivery keeps all eleven
pub delivery_is_consistent : (rows : Rows) (W D o carrier at : ℕ) → IsKeyed rows → HasParents rows → oldest_new_order rows W D ≡ Some o → IsConsistent rows → IsConsistent (after_delivery rows W D o carrier at)
unfolding after_delivery keeps_1 keeps_8 keeps_9
delivery_is_consistent rows W D o carrier at keyed parents e h =
    let known = known_of rows W D o keyed parents h e in
    record {
      condition_1 = h.condition_1;
      condition_2 = list_all-mono (keeps_2 rows) (keeps_2 (after_delivery rows W D o carrier at)) (λ d. keeps_2_at rows W D o carrier at keyed e d (is_district W D d) refl) rows.districts h.condition_2;
      condition_3 = list_all-mono (keeps_3 rows) (keeps_3 (after_delivery rows W D o carrier at)) (λ d. keeps_3_at rows W D o carrier at keyed e d (is_district W D d) refl) rows.districts h.condition_3;
      condition_4 = delivery_keeps_4 rows W D o carrier at h.condition_4;
      condition_5 = delivery_keeps_5 rows W D o carrier at h.condition_5;
      condition_6 = delivery_keeps_6 rows W D o carrier at h.condition_6;
      condition_7 = delivery_keeps_7 rows W D o carrier at (order_found rows W D o parents e) h.condition_7;
      condition_8 = h.condition_8;
      condition_9 = h.condition_9;
      condition_10 = delivery_keeps_10 rows W D o carrier at known h.condition_7 h.condition_10;
      condition_12 = delivery_keeps_12 rows W D o carrier at known h.condition_7 h.condition_12;
    }
