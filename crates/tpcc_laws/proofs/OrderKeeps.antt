-- An order keeps the conditions.
use Rattle.std.proofs.Common.{◌≡◌, ℕ, suc, ◌+◌, ◌==◌, Bool, true, false, List, [], ◌∷◌, length, refl, sym, ap, ◌∙◌, arith, zero-add}
use Rattle.std.specs.Prelude.{ℤ, pos, ◌+ℤ◌, ◌-ℤ◌, filter, map, max, min, if◌then◌else◌, ◌&&◌, ◌||◌, nat_lt, Option, Some, None, is_some, find, unwrap_or, sum_by, is_none}
use Rattle.std.specs.List.{list_all, enumerate_from}
use Rattle.std.specs.Bool.{beq}
use Rattle.std.specs.Ordering.{int_eq}
use Rattle.tpcc_rows.specs.declared.tables.rows.CustomerRow.{CustomerRow}
use Rattle.std.proofs.lemmas.Int.{ints}
use Rattle.std.proofs.lemmas.Bool.Decides.{nat_tests}
use Rattle.tpcc_money.specs.Amounts.{total}
use Rattle.tpcc_rows.specs.declared.tables.rows.DistrictRow.{DistrictRow}
use Rattle.tpcc_rows.specs.declared.tables.rows.OrderRow.{OrderRow}
use Rattle.tpcc_rows.specs.declared.tables.rows.OrderLineRow.{OrderLineRow}
use Rattle.tpcc_rows.specs.declared.transactions.requests.Order.{Order}
use Rattle.tpcc_rows.specs.WellKeyed.{is_numbered_below_next, has_order_and_stock, HasParents}
use Rattle.tpcc_rows.specs.Lists.{updated, inserted, inserted_all, by_key, largest, smallest, larger, smaller}
use Rattle.tpcc_rows.specs.Tables.{Rows, order_line_key, districts_of, order_lines_in, lines_of, orders_of, is_order, is_line_of, is_new_order, is_order_of, find_order, find_stock, find_new_order, district_at, orders_in, is_district, no_district, no_order, paid_by, order_key, new_order_key}
use Rattle.tpcc_rows.specs.Conditions.{IsConsistent, keeps_1, keeps_2, keeps_3, keeps_4, keeps_5, keeps_6, keeps_7, keeps_8, keeps_9, keeps_10, keeps_12, delivered_amount, delivered_to, new_order_numbers}
use Rattle.tpcc_rows.specs.NewOrder.{after_order, order_line_row, order_line_rows, order_row, new_order_row, order_number, with_next_order}
use Rattle.tpcc_laws.proofs.List.{has_one, list_all-updated_one, list_all_both, then_taken, else_taken, list_all-mono, list_all-updated, total-updated_same, length-filter-map_all, filter-map_none, filter-none, list_any-none, list_all-map, find-none, total-same}
use Rattle.tpcc_laws.proofs.PaymentKeeps.{same_district, stays}
use Rattle.tpcc_laws.proofs.Insert.{largest-inserted, smallest-inserted, length-inserted, sum_by-inserted, length-inserted_all, list_all-inserted, list_all-inserted_all, find-inserted_other, find-inserted_new, found-inserted_new, total-inserted, total-inserted_all}

larger_is_max : (n : ℕ) (o : Option ℕ) → larger n o ≡ max n (unwrap_or o 0)
larger_is_max n None = omega arith
larger_is_max n (Some m) = refl

core_2 : (next big len newest : ℕ) → ((next == big + 1) && ((len == 0) || (next == newest + 1))) ≡ true → (len ≡ 0 → newest ≡ 0) → ((next + 1 == max next big + 1) && ((suc len == 0) || (next + 1 == max next newest + 1))) ≡ true
core_2 next big len newest h none = grind (arith, nat_tests)

none_is_0 : (ns : List ℕ) → length ns ≡ 0 → unwrap_or (largest ns) 0 ≡ 0
none_is_0 [] e = refl
none_is_0 (n ∷ ns) e = absurd (omega arith)

-- whether the order is of that district
abbrev is_of : Order → DistrictRow → Bool
is_of order d = (order.warehouse == d.warehouse) && (order.district == d.id)

-- the largest O_ID and the NO_O_IDs of a district after an order
orders_after : (rows : Rows) (order : Order) (d : DistrictRow) → largest (map (λ o. o.id) (orders_in (after_order rows order) d.warehouse d.id)) ≡ (if is_of order d then largest (order_number rows order ∷ map (λ o. o.id) (orders_in rows d.warehouse d.id)) else largest (map (λ o. o.id) (orders_in rows d.warehouse d.id)))
unfolding after_order
orders_after rows order d = largest-inserted (by_key order_key) (λ o. o.id) (λ o. (o.warehouse == d.warehouse) && (o.district == d.id)) (order_row rows order) rows.orders

newest_after : (rows : Rows) (order : Order) (d : DistrictRow) → largest (new_order_numbers (after_order rows order) d) ≡ (if is_of order d then largest (order_number rows order ∷ new_order_numbers rows d) else largest (new_order_numbers rows d))
unfolding after_order
newest_after rows order d = largest-inserted (by_key new_order_key) (λ n. n.order) (λ n. (n.warehouse == d.warehouse) && (n.district == d.id)) (new_order_row rows order) rows.new_orders

oldest_after : (rows : Rows) (order : Order) (d : DistrictRow) → smallest (new_order_numbers (after_order rows order) d) ≡ (if is_of order d then smallest (order_number rows order ∷ new_order_numbers rows d) else smallest (new_order_numbers rows d))
unfolding after_order
oldest_after rows order d = smallest-inserted (by_key new_order_key) (λ n. n.order) (λ n. (n.warehouse == d.warehouse) && (n.district == d.id)) (new_order_row rows order) rows.new_orders

length-map : {X Y : Type 0} (f : X → Y) (xs : List X) → length (map f xs) ≡ length xs
length-map f [] = refl
length-map f (x ∷ xs) = ap suc (length-map f xs)

count_after : (rows : Rows) (order : Order) (d : DistrictRow) → length (new_order_numbers (after_order rows order) d) ≡ (if is_of order d then suc (length (new_order_numbers rows d)) else length (new_order_numbers rows d))
unfolding after_order
count_after rows order d =
    simp length-map (length-inserted (by_key new_order_key) (λ n. (n.warehouse == d.warehouse) && (n.district == d.id)) (new_order_row rows order) rows.new_orders)

-- the test of condition 2, on numbers
abbrev pub test_2 : ℕ → Option ℕ → ℕ → Option ℕ → Bool
test_2 next big len newest = (next == unwrap_or big 0 + 1) && ((len == 0) || (next == unwrap_or newest 0 + 1))

next_2 : (next : ℕ) (big : Option ℕ) (ns : List ℕ) → test_2 next big (length ns) (largest ns) ≡ true → test_2 (next + 1) (Some (larger next big)) (suc (length ns)) (largest (next ∷ ns)) ≡ true
next_2 next big ns h =
    (λ i. test_2 (next + 1) (Some (larger_is_max next big i)) (suc (length ns)) (Some (larger_is_max next (largest ns) i))) ∙ core_2 next (unwrap_or big 0) (length ns) (unwrap_or (largest ns) 0) h (none_is_0 ns)

-- the district of an order has the order's number as its next one
number_of : (rows : Rows) (order : Order) (d : DistrictRow) → find (is_district order.warehouse order.district) rows.districts ≡ Some d → order_number rows order ≡ d.next_order
number_of rows order d e = ap (λ (o : Option DistrictRow). (unwrap_or o no_district).next_order) e

pub order_keeps_2 : (rows : Rows) (order : Order) → has_one (is_district order.warehouse order.district) rows.districts ≡ true → list_all (keeps_2 rows) rows.districts ≡ true → list_all (keeps_2 (after_order rows order)) (updated (is_district order.warehouse order.district) with_next_order rows.districts) ≡ true
unfolding keeps_2
order_keeps_2 rows order one h =
    list_all-updated_one (keeps_2 rows) (keeps_2 (after_order rows order)) (is_district order.warehouse order.district) with_next_order
    (λ d k other.
    let out = same_district d order.warehouse order.district false other in
    (λ i. test_2 d.next_order (orders_after rows order d i) (count_after rows order d i) (newest_after rows order d i))
    ∙ (λ i. test_2 d.next_order (if out i then largest (order_number rows order ∷ map (λ o. o.id) (orders_in rows d.warehouse d.id)) else largest (map (λ o. o.id) (orders_in rows d.warehouse d.id))) (if out i then suc (length (new_order_numbers rows d)) else length (new_order_numbers rows d)) (if out i then largest (order_number rows order ∷ new_order_numbers rows d) else largest (new_order_numbers rows d)))
    ∙ k)
    rows.districts h one
    (λ d found k this.
    let here = same_district d order.warehouse order.district true this in
    (λ i. test_2 (d.next_order + 1) (orders_after rows order d i) (count_after rows order d i) (newest_after rows order d i))
    ∙ (λ i. test_2 (d.next_order + 1) (if here i then largest (order_number rows order ∷ map (λ o. o.id) (orders_in rows d.warehouse d.id)) else largest (map (λ o. o.id) (orders_in rows d.warehouse d.id))) (if here i then suc (length (new_order_numbers rows d)) else length (new_order_numbers rows d)) (if here i then largest (order_number rows order ∷ new_order_numbers rows d) else largest (new_order_numbers rows d)))
    ∙ (λ i. test_2 (d.next_order + 1) (largest (number_of rows order d found i ∷ map (λ o. o.id) (orders_in rows d.warehouse d.id))) (suc (length (new_order_numbers rows d))) (largest (number_of rows order d found i ∷ new_order_numbers rows d)))
    ∙ next_2 d.next_order (largest (map (λ o. o.id) (orders_in rows d.warehouse d.id))) (new_order_numbers rows d) k)

-- the test of condition 3, on numbers
abbrev pub test_3 : Option ℕ → Option ℕ → ℕ → Bool
test_3 newest oldest len = (len == 0) || (unwrap_or newest 0 + 1 == unwrap_or oldest 0 + len)

core_3 : (next newest oldest len : ℕ) → ((len == 0) || (next == newest + 1)) ≡ true → ((len == 0) || (newest + 1 == oldest + len)) ≡ true → (len ≡ 0 → ⊥) → (max next newest + 1 == min next oldest + suc len) ≡ true
core_3 next newest oldest len h k some = grind (arith, nat_tests)

next_3 : (next : ℕ) (ns : List ℕ) → ((length ns == 0) || (next == unwrap_or (largest ns) 0 + 1)) ≡ true → test_3 (largest ns) (smallest ns) (length ns) ≡ true → test_3 (largest (next ∷ ns)) (smallest (next ∷ ns)) (suc (length ns)) ≡ true
next_3 next [] h k = grind (arith, nat_tests)
next_3 next (n ∷ ns) h k = grind (arith, core_3 next (larger n (largest ns)) (smaller n (smallest ns)) (suc (length ns)) h k (λ e. absurd (omega arith)))

pub second : (a b : Bool) → (a && b) ≡ true → b ≡ true
second true b h = h
second false b h = cc

pub first : (a b : Bool) → (a && b) ≡ true → a ≡ true
first true b h = refl
first false b h = h

pub order_keeps_3 : (rows : Rows) (order : Order) → has_one (is_district order.warehouse order.district) rows.districts ≡ true → list_all (keeps_2 rows) rows.districts ≡ true → list_all (keeps_3 rows) rows.districts ≡ true → list_all (keeps_3 (after_order rows order)) (updated (is_district order.warehouse order.district) with_next_order rows.districts) ≡ true
unfolding keeps_2 keeps_3
order_keeps_3 rows order one h2 h3 =
    list_all-updated_one (λ d. keeps_2 rows d && keeps_3 rows d) (keeps_3 (after_order rows order)) (is_district order.warehouse order.district) with_next_order
    (λ d k other.
    let out = same_district d order.warehouse order.district false other in
    (λ i. test_3 ((newest_after rows order d ∙ else_taken _ _ _ out) i) ((oldest_after rows order d ∙ else_taken _ _ _ out) i) ((count_after rows order d ∙ else_taken _ _ _ out) i))
    ∙ second (keeps_2 rows d) _ k)
    rows.districts (list_all_both (keeps_2 rows) (keeps_3 rows) rows.districts h2 h3) one
    (λ d found k this.
    let here = same_district d order.warehouse order.district true this in
    (λ i. test_3 ((newest_after rows order d ∙ then_taken _ _ _ here) i) ((oldest_after rows order d ∙ then_taken _ _ _ here) i) ((count_after rows order d ∙ then_taken _ _ _ here) i))
    ∙ (λ i. test_3 (largest (number_of rows order d found i ∷ new_order_numbers rows d)) (smallest (number_of rows order d found i ∷ new_order_numbers rows d)) (suc (length (new_order_numbers rows d))))
    ∙ next_3 d.next_order (new_order_numbers rows d) (second (d.next_order == unwrap_or (largest (map (λ o. o.id) (orders_in rows d.warehouse d.id))) 0 + 1) _ (first (keeps_2 rows d) _ k)) (second (keeps_2 rows d) _ k))

-- ---- conditions that an order leaves as they are

pub order_keeps_1 : (rows : Rows) (order : Order) → list_all (keeps_1 rows) rows.warehouses ≡ true → list_all (keeps_1 (after_order rows order)) rows.warehouses ≡ true
unfolding keeps_1 after_order
order_keeps_1 rows order h =
    list_all-mono (keeps_1 rows) (keeps_1 (after_order rows order))
    (λ w k. stays w.ytd (total (λ d. d.ytd) (districts_of rows w.id)) _ k (total-updated_same (λ d. d.ytd) (λ d. d.warehouse == w.id) (is_district order.warehouse order.district) with_next_order (λ d. (refl, refl)) rows.districts))
    rows.warehouses h

pub order_keeps_9 : (rows : Rows) (order : Order) → list_all (keeps_9 rows) rows.districts ≡ true → list_all (keeps_9 (after_order rows order)) (updated (is_district order.warehouse order.district) with_next_order rows.districts) ≡ true
unfolding keeps_9 after_order
order_keeps_9 rows order h = list_all-updated (keeps_9 rows) (keeps_9 (after_order rows order)) (is_district order.warehouse order.district) with_next_order (λ d k other. k) (λ d k this. k) rows.districts h

-- ---- condition 4

length-enumerate : {X : Type 0} (n : ℕ) (xs : List X) → length (enumerate_from n xs) ≡ length xs
length-enumerate n [] = refl
length-enumerate n (x ∷ xs) = ap suc (length-enumerate (n + 1) xs)

line_counts_after : (rows : Rows) (order : Order) (d : DistrictRow) → sum_by (λ o. o.line_count) (orders_in (after_order rows order) d.warehouse d.id) ≡ (if is_of order d then length order.lines + sum_by (λ o. o.line_count) (orders_in rows d.warehouse d.id) else sum_by (λ o. o.line_count) (orders_in rows d.warehouse d.id))
unfolding after_order
line_counts_after rows order d = sum_by-inserted (by_key order_key) (λ o. o.line_count) (λ o. (o.warehouse == d.warehouse) && (o.district == d.id)) (order_row rows order) rows.orders

lines_after : (rows : Rows) (order : Order) (d : DistrictRow) → length (order_lines_in (after_order rows order) d.warehouse d.id) ≡ length (filter (λ l. (l.warehouse == d.warehouse) && (l.district == d.id)) (order_line_rows rows order)) + length (order_lines_in rows d.warehouse d.id)
unfolding after_order
lines_after rows order d = length-inserted_all (by_key order_line_key) (λ l. (l.warehouse == d.warehouse) && (l.district == d.id)) (order_line_rows rows order) rows.order_lines

own_lines : (rows : Rows) (order : Order) (d : DistrictRow) → is_of order d ≡ true → length (filter (λ l. (l.warehouse == d.warehouse) && (l.district == d.id)) (order_line_rows rows order)) ≡ length order.lines
own_lines rows order d e =
    length-filter-map_all (λ l. (l.warehouse == d.warehouse) && (l.district == d.id)) (λ line. order_line_row rows order line.0 line.1) (λ line. e) (enumerate_from 1 order.lines) ∙ length-enumerate 1 order.lines

no_lines : (rows : Rows) (order : Order) (d : DistrictRow) → is_of order d ≡ false → filter (λ l. (l.warehouse == d.warehouse) && (l.district == d.id)) (order_line_rows rows order) ≡ []
no_lines rows order d e = filter-map_none (λ l. (l.warehouse == d.warehouse) && (l.district == d.id)) (λ line. order_line_row rows order line.0 line.1) (λ line. e) (enumerate_from 1 order.lines)

same_sum : (a b n : ℕ) → (a == b) ≡ true → (n + a == n + b) ≡ true
same_sum a b n h = grind (arith, nat_tests)

pub order_keeps_4 : (rows : Rows) (order : Order) → list_all (keeps_4 rows) rows.districts ≡ true → list_all (keeps_4 (after_order rows order)) (updated (is_district order.warehouse order.district) with_next_order rows.districts) ≡ true
unfolding keeps_4
order_keeps_4 rows order =
    list_all-updated (keeps_4 rows) (keeps_4 (after_order rows order)) (is_district order.warehouse order.district) with_next_order
    (λ d k other.
    let out = same_district d order.warehouse order.district false other in
    (λ i. (line_counts_after rows order d ∙ else_taken _ _ _ out) i == (lines_after rows order d ∙ ap (λ ls. length ls + length (order_lines_in rows d.warehouse d.id)) (no_lines rows order d out) ∙ zero-add (length (order_lines_in rows d.warehouse d.id))) i) ∙ k)
    (λ d k this.
    let here = same_district d order.warehouse order.district true this in
    (λ i. (line_counts_after rows order d ∙ then_taken _ _ _ here) i == (lines_after rows order d ∙ ap (λ n. n + length (order_lines_in rows d.warehouse d.id)) (own_lines rows order d here)) i)
    ∙ same_sum (sum_by (λ o. o.line_count) (orders_in rows d.warehouse d.id)) (length (order_lines_in rows d.warehouse d.id)) (length order.lines) k)
    rows.districts

-- ---- the order's number is new

pub true_is_false : true ≡ false → ⊥
true_is_false e = cc

and_false : (a b : Bool) → (a ≡ true → b ≡ false) → (a && b) ≡ false
and_false true b h = h refl
and_false false b h = refl

pub both_equal : (a x b y : ℕ) → ((a == x) && (b == y)) ≡ true → (a ≡ x) × (b ≡ y)
both_equal a x b y h = (grind (arith, nat_tests), grind (arith, nat_tests))

below_next : (rows : Rows) (w d W D id : ℕ) → w ≡ W → d ≡ D → nat_lt id (district_at rows w d).next_order ≡ true → (id == (district_at rows W D).next_order) ≡ false
below_next rows w d W D id e f h =
    let same : (district_at rows w d).next_order ≡ (district_at rows W D).next_order = λ i. (district_at rows (e i) (f i)).next_order in grind (arith, nat_tests)

pub equality_is_symmetric : (a b : ℕ) → (a == b) ≡ (b == a)
equality_is_symmetric a b = grind (arith, nat_tests)

-- no old order has it
pub not_order : (rows : Rows) (order : Order) (r : OrderRow) → is_numbered_below_next rows r ≡ true → is_order order.warehouse order.district (order_number rows order) r ≡ false
not_order rows order r h =
    and_false ((r.warehouse == order.warehouse) && (r.district == order.district)) (r.id == order_number rows order)
    (λ e. let same = both_equal r.warehouse order.warehouse r.district order.district e in below_next rows r.warehouse r.district order.warehouse order.district r.id same.0 same.1 h)

not_of_order : (rows : Rows) (order : Order) (r : OrderRow) → is_numbered_below_next rows r ≡ true → ((order.warehouse == r.warehouse) && (order.district == r.district) && (order_number rows order == r.id)) ≡ false
not_of_order rows order r h =
    (λ i. equality_is_symmetric order.warehouse r.warehouse i && equality_is_symmetric order.district r.district i && equality_is_symmetric (order_number rows order) r.id i) ∙ not_order rows order r h

pub no_old_order : (rows : Rows) (order : Order) → list_all (is_numbered_below_next rows) rows.orders ≡ true → is_some (find_order rows order.warehouse order.district (order_number rows order)) ≡ false
no_old_order rows order h = find-none (is_numbered_below_next rows) (is_order order.warehouse order.district (order_number rows order)) (not_order rows order) rows.orders h

-- and so no old line
pub all_equal : (a x b y c z : ℕ) → ((a == x) && (b == y) && (c == z)) ≡ true → (a ≡ x) × (b ≡ y) × (c ≡ z)
all_equal a x b y c z h = (grind (arith, nat_tests), grind (arith, nat_tests), grind (arith, nat_tests))

pub by_contradiction : (b : Bool) → (b ≡ true → ⊥) → b ≡ false
by_contradiction true h = absurd (h refl)
by_contradiction false h = refl

pub not_line : (rows : Rows) (w d o : ℕ) → is_some (find_order rows w d o) ≡ false → (l : OrderLineRow) → has_order_and_stock rows l ≡ true → is_line_of w d o l ≡ false
not_line rows w d o none l h =
    by_contradiction (is_line_of w d o l) (λ e.
    let same = all_equal l.warehouse w l.district d l.order o e in
    let found : is_some (find_order rows l.warehouse l.district l.order) ≡ true = first (is_some (find_order rows l.warehouse l.district l.order)) (is_some (find_stock rows l.supply l.item)) h in
    let missing : is_some (find_order rows l.warehouse l.district l.order) ≡ false = (λ i. is_some (find_order rows (same.0 i) (same.1 i) (same.2 i))) ∙ none in
    true_is_false (sym found ∙ missing))

no_old_lines : (rows : Rows) (order : Order) → list_all (is_numbered_below_next rows) rows.orders ≡ true → list_all (has_order_and_stock rows) rows.order_lines ≡ true → lines_of rows order.warehouse order.district (order_number rows order) ≡ []
no_old_lines rows order h k =
    filter-none (has_order_and_stock rows) (is_line_of order.warehouse order.district (order_number rows order))
    (not_line rows order.warehouse order.district (order_number rows order) (no_old_order rows order h)) rows.order_lines k

pub itself : (w d o : ℕ) → ((w == w) && (d == d) && (o == o)) ≡ true
itself w d o = grind (arith, nat_tests)

-- ---- condition 5

pub order_keeps_5 : (rows : Rows) (order : Order) → list_all (is_numbered_below_next rows) rows.orders ≡ true → list_all (keeps_5 rows) rows.orders ≡ true → list_all (keeps_5 (after_order rows order)) (inserted (by_key order_key) (order_row rows order) rows.orders) ≡ true
unfolding keeps_5 after_order
order_keeps_5 rows order numbers h =
    let number = order_number rows order in
    let here : is_some (find_new_order (after_order rows order) order.warehouse order.district number) ≡ true = found-inserted_new (by_key new_order_key) (is_new_order order.warehouse order.district number) (new_order_row rows order) rows.new_orders (itself order.warehouse order.district number) in
    let others : list_all (keeps_5 (after_order rows order)) rows.orders ≡ true =
    list_all-mono (λ r. keeps_5 rows r && is_numbered_below_next rows r) (keeps_5 (after_order rows order))
    (λ r k.
    (λ i. beq (is_none r.carrier) (is_some (find-inserted_other (by_key new_order_key) (is_new_order r.warehouse r.district r.id) (new_order_row rows order) rows.new_orders (not_of_order rows order r (second (keeps_5 rows r) _ k)) i)))
    ∙ first (keeps_5 rows r) _ k)
    rows.orders (list_all_both (keeps_5 rows) (is_numbered_below_next rows) rows.orders h numbers) in
    list_all-inserted (by_key order_key) (keeps_5 (after_order rows order)) (order_row rows order) rows.orders ∙ (λ i. beq true (here i) && others i)

-- ---- condition 6

new_lines : (rows : Rows) (order : Order) (w d o : ℕ) → length (lines_of (after_order rows order) w d o) ≡ length (filter (is_line_of w d o) (order_line_rows rows order)) + length (lines_of rows w d o)
unfolding after_order
new_lines rows order w d o = length-inserted_all (by_key order_line_key) (is_line_of w d o) (order_line_rows rows order) rows.order_lines

equal_to_itself : (a b c : ℕ) → b ≡ a → c ≡ 0 → (a == b + c) ≡ true
equal_to_itself a b c e f = grind (arith, nat_tests)

pub order_keeps_6 : (rows : Rows) (order : Order) → list_all (is_numbered_below_next rows) rows.orders ≡ true → list_all (has_order_and_stock rows) rows.order_lines ≡ true → list_all (keeps_6 rows) rows.orders ≡ true → list_all (keeps_6 (after_order rows order)) (inserted (by_key order_key) (order_row rows order) rows.orders) ≡ true
unfolding keeps_6
order_keeps_6 rows order numbers parents h =
    let number = order_number rows order in
    let own : length (filter (is_line_of order.warehouse order.district number) (order_line_rows rows order)) ≡ length order.lines =
    length-filter-map_all (is_line_of order.warehouse order.district number) (λ line. order_line_row rows order line.0 line.1) (λ line. itself order.warehouse order.district number) (enumerate_from 1 order.lines) ∙ length-enumerate 1 order.lines in
    let here : (length order.lines == length (lines_of (after_order rows order) order.warehouse order.district number)) ≡ true =
    (λ i. length order.lines == new_lines rows order order.warehouse order.district number i) ∙ equal_to_itself (length order.lines) _ _ own (ap length (no_old_lines rows order numbers parents)) in
    let others : list_all (keeps_6 (after_order rows order)) rows.orders ≡ true =
    list_all-mono (λ r. keeps_6 rows r && is_numbered_below_next rows r) (keeps_6 (after_order rows order))
    (λ r k.
    (λ i. r.line_count == (new_lines rows order r.warehouse r.district r.id ∙ ap (λ ls. length ls + length (lines_of rows r.warehouse r.district r.id)) (filter-map_none (is_line_of r.warehouse r.district r.id) (λ line. order_line_row rows order line.0 line.1) (λ line. not_of_order rows order r (second (keeps_6 rows r) _ k)) (enumerate_from 1 order.lines)) ∙ zero-add (length (lines_of rows r.warehouse r.district r.id))) i)
    ∙ first (keeps_6 rows r) _ k)
    rows.orders (list_all_both (keeps_6 rows) (is_numbered_below_next rows) rows.orders h numbers) in
    list_all-inserted (by_key order_key) (keeps_6 (after_order rows order)) (order_row rows order) rows.orders ∙ (λ i. here i && others i)

-- ---- condition 7

pub order_found : (rows : Rows) (order : Order) → list_all (is_numbered_below_next rows) rows.orders ≡ true → find_order (after_order rows order) order.warehouse order.district (order_number rows order) ≡ Some (order_row rows order)
unfolding after_order
order_found rows order numbers =
    find-inserted_new (by_key order_key) (is_order order.warehouse order.district (order_number rows order)) (order_row rows order) rows.orders
    (itself order.warehouse order.district (order_number rows order))
    (list_any-none (is_numbered_below_next rows) (is_order order.warehouse order.district (order_number rows order)) (not_order rows order) rows.orders numbers)

pub order_keeps_7 : (rows : Rows) (order : Order) → list_all (is_numbered_below_next rows) rows.orders ≡ true → list_all (has_order_and_stock rows) rows.order_lines ≡ true → list_all (keeps_7 rows) rows.order_lines ≡ true → list_all (keeps_7 (after_order rows order)) (inserted_all (by_key order_line_key) (order_line_rows rows order) rows.order_lines) ≡ true
unfolding keeps_7 after_order
order_keeps_7 rows order numbers parents h =
    let number = order_number rows order in
    let news : list_all (keeps_7 (after_order rows order)) (order_line_rows rows order) ≡ true =
    list_all-map (keeps_7 (after_order rows order)) (λ line. order_line_row rows order line.0 line.1) (λ line i. beq true (is_none (unwrap_or (order_found rows order numbers i) no_order).carrier)) (enumerate_from 1 order.lines) in
    let others : list_all (keeps_7 (after_order rows order)) rows.order_lines ≡ true =
    list_all-mono (λ l. keeps_7 rows l && has_order_and_stock rows l) (keeps_7 (after_order rows order))
    (λ l k.
    let apart = not_line rows order.warehouse order.district number (no_old_order rows order numbers) l (second (keeps_7 rows l) _ k) in
    let other : is_order l.warehouse l.district l.order (order_row rows order) ≡ false = (λ i. equality_is_symmetric order.warehouse l.warehouse i && equality_is_symmetric order.district l.district i && equality_is_symmetric number l.order i) ∙ apart in
    (λ i. beq (is_none l.delivered) (is_none (unwrap_or (find-inserted_other (by_key order_key) (is_order l.warehouse l.district l.order) (order_row rows order) rows.orders other i) no_order).carrier))
    ∙ first (keeps_7 rows l) _ k)
    rows.order_lines (list_all_both (keeps_7 rows) (has_order_and_stock rows) rows.order_lines h parents) in
    list_all-inserted_all (by_key order_line_key) (keeps_7 (after_order rows order)) (order_line_rows rows order) rows.order_lines ∙ (λ i. news i && others i)

-- ---- conditions 10 and 12

and_no : (b : Bool) → (b && false) ≡ false
and_no true = refl
and_no false = refl

zero_more : (t : ℤ) → pos 0 +ℤ t ≡ t
zero_more t = omega (arith, ints)

delivered_as_before : (rows : Rows) (order : Order) (r : OrderRow) → delivered_amount (after_order rows order) r ≡ delivered_amount rows r
unfolding after_order
delivered_as_before rows order r =
    total-inserted_all (by_key order_line_key) (λ l. l.amount) (λ l. is_line_of r.warehouse r.district r.id l && is_some l.delivered) (order_line_rows rows order) rows.order_lines
    ∙ ap (λ ls. total (λ l. l.amount) ls +ℤ delivered_amount rows r) (filter-map_none (λ l. is_line_of r.warehouse r.district r.id l && is_some l.delivered) (λ line. order_line_row rows order line.0 line.1) (λ line. and_no (is_line_of r.warehouse r.district r.id (order_line_row rows order line.0 line.1))) (enumerate_from 1 order.lines))
    ∙ zero_more (delivered_amount rows r)

none_delivered : (rows : Rows) (order : Order) → list_all (is_numbered_below_next rows) rows.orders ≡ true → list_all (has_order_and_stock rows) rows.order_lines ≡ true → delivered_amount rows (order_row rows order) ≡ pos 0
none_delivered rows order numbers parents =
    ap (total (λ l. l.amount)) (filter-none (has_order_and_stock rows) (λ l. is_line_of order.warehouse order.district (order_number rows order) l && is_some l.delivered)
    (λ l k. ap (λ b. b && is_some l.delivered) (not_line rows order.warehouse order.district (order_number rows order) (no_old_order rows order numbers) l k)) rows.order_lines parents)

either : (b : Bool) (x t : ℤ) → x ≡ pos 0 → (if b then x +ℤ t else t) ≡ t
either true x t e = omega (arith, ints)
either false x t e = refl

orders_split : (rows : Rows) (order : Order) (c : CustomerRow) → total (delivered_amount rows) (orders_of (after_order rows order) c.warehouse c.district c.id) ≡ (if is_order_of c.warehouse c.district c.id (order_row rows order) then delivered_amount rows (order_row rows order) +ℤ delivered_to rows c else delivered_to rows c)
unfolding after_order
orders_split rows order c = total-inserted (by_key order_key) (delivered_amount rows) (is_order_of c.warehouse c.district c.id) (order_row rows order) rows.orders

delivered_to_as_before : (rows : Rows) (order : Order) (c : CustomerRow) → list_all (is_numbered_below_next rows) rows.orders ≡ true → list_all (has_order_and_stock rows) rows.order_lines ≡ true → delivered_to (after_order rows order) c ≡ delivered_to rows c
delivered_to_as_before rows order c numbers parents =
    total-same (delivered_amount (after_order rows order)) (delivered_amount rows) (delivered_as_before rows order) (orders_of (after_order rows order) c.warehouse c.district c.id)
    ∙ orders_split rows order c
    ∙ either (is_order_of c.warehouse c.district c.id (order_row rows order)) (delivered_amount rows (order_row rows order)) (delivered_to rows c) (none_delivered rows order numbers parents)

pub order_keeps_10 : (rows : Rows) (order : Order) → list_all (is_numbered_below_next rows) rows.orders ≡ true → list_all (has_order_and_stock rows) rows.order_lines ≡ true → list_all (keeps_10 rows) rows.customers ≡ true → list_all (keeps_10 (after_order rows order)) rows.customers ≡ true
unfolding keeps_10 after_order
order_keeps_10 rows order numbers parents h =
    list_all-mono (keeps_10 rows) (keeps_10 (after_order rows order)) (λ c k. (λ i. int_eq c.balance (delivered_to_as_before rows order c numbers parents i -ℤ total (λ h. h.amount) (paid_by rows c.warehouse c.district c.id))) ∙ k) rows.customers h

pub order_keeps_12 : (rows : Rows) (order : Order) → list_all (is_numbered_below_next rows) rows.orders ≡ true → list_all (has_order_and_stock rows) rows.order_lines ≡ true → list_all (keeps_12 rows) rows.customers ≡ true → list_all (keeps_12 (after_order rows order)) rows.customers ≡ true
unfolding keeps_12 after_order
order_keeps_12 rows order numbers parents h =
    list_all-mono (keeps_12 rows) (keeps_12 (after_order rows order)) (λ c k. (λ i. int_eq (c.balance +ℤ c.ytd_payment) (delivered_to_as_before rows order c numbers parents i)) ∙ k) rows.customers h

-- an order keeps all eleven
pub order_is_consistent : (rows : Rows) (order : Order) → has_one (is_district order.warehouse order.district) rows.districts ≡ true → HasParents rows → IsConsistent rows → IsConsistent (after_order rows order)
unfolding after_order keeps_8
order_is_consistent rows order one parents h =
    record {
      condition_1 = order_keeps_1 rows order h.condition_1;
      condition_2 = order_keeps_2 rows order one h.condition_2;
      condition_3 = order_keeps_3 rows order one h.condition_2 h.condition_3;
      condition_4 = order_keeps_4 rows order h.condition_4;
      condition_5 = order_keeps_5 rows order parents.numbers h.condition_5;
      condition_6 = order_keeps_6 rows order parents.numbers parents.order_lines h.condition_6;
      condition_7 = order_keeps_7 rows order parents.numbers parents.order_lines h.condition_7;
      condition_8 = h.condition_8;
      condition_9 = order_keeps_9 rows order h.condition_9;
      condition_10 = order_keeps_10 rows order parents.numbers parents.order_lines h.condition_10;
      condition_12 = order_keeps_12 rows order parents.numbers parents.order_lines h.condition_12;
    }
