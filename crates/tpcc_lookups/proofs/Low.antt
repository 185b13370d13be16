-- A customer's last order is there, and what a Stock-Level counts.
use Rattle.std.proofs.Common.{◌≡◌, ◌∙◌, ℕ, Bool, true, false, List, [], ◌∷◌, sym, arith, Option, Some, None, length, map}
use Rattle.std.specs.Prelude.{◌-◌, filter, find, ◌&&◌, ◌==◌, ◌||◌, nat_le, nat_lt, is_some, unwrap_or}
use Rattle.std.specs.List.{list_any}
use Rattle.std.proofs.lemmas.Bool.Decides.{nat_tests}
use Rattle.tpcc_rows.specs.declared.tables.rows.OrderRow.{OrderRow}
use Rattle.tpcc_rows.specs.declared.tables.rows.DistrictRow.{DistrictRow}
use Rattle.tpcc_rows.specs.declared.transactions.requests.StockQuery.{StockQuery}
use Rattle.tpcc_rows.specs.Lists.{distinct, largest, larger}
use Rattle.tpcc_rows.specs.Lookups.{is_low, last_order_number, low_stock}
use Rattle.tpcc_rows.specs.Tables.{Rows, is_order, is_order_of, find_order, find_district, no_district, order_lines_in}

abbrev is_that : ℕ → Option ℕ → Bool
is_that n None = false
is_that n (Some m) = m == n

larger_one : (m n : ℕ) (o : Option ℕ) → larger m o ≡ n → ((m == n) || is_that n o) ≡ true
larger_one m n None e = grind (arith, nat_tests)
larger_one m n (Some k) e = grind (arith, nat_tests)

that_one : (n : ℕ) (o : Option ℕ) → is_that n o ≡ true → o ≡ Some n
that_one n None h = cc
that_one n (Some m) h = grind (arith, nat_tests)

inside : (n m : ℕ) → Some n ≡ Some m → n ≡ m
inside n m e = cc

largest_in : (n : ℕ) (ns : List ℕ) → largest ns ≡ Some n → list_any (λ m. m == n) ns ≡ true
largest_in n [] e = cc
largest_in n (m ∷ ms) e = let k = larger_one m n (largest ms) (inside (larger m (largest ms)) n e) in grind (arith, k, that_one n (largest ms), largest_in n ms)

order_in : (w d c n : ℕ) (os : List OrderRow) → list_any (λ m. m == n) (map (λ o. o.id) (filter (is_order_of w d c) os)) ≡ true → is_some (find (is_order w d n) os) ≡ true
order_in w d c n [] e = cc
order_in w d c n (o ∷ os) e = grind (arith, order_in w d c n os)

pub last_is_there : (rows : Rows) (w d c n : ℕ) → last_order_number rows w d c ≡ Some n → is_some (find_order rows w d n) ≡ true
last_is_there rows w d c n e = order_in w d c n rows.orders (largest_in n (map (λ o. o.id) (filter (is_order_of w d c) rows.orders)) e)

-- how many items of the 20 orders before a number are low
abbrev pub low_before : Rows → StockQuery → ℕ → ℕ
low_before rows q next = length (filter (is_low rows q.warehouse q.threshold) (distinct (map (λ l. l.item) (filter (λ l. nat_le (next - 20) l.order && nat_lt l.order next) (order_lines_in rows q.warehouse q.district)))))

pub level_is : (rows : Rows) (q : StockQuery) (district : DistrictRow) (count : ℕ) → find_district rows q.warehouse q.district ≡ Some district → count ≡ low_before rows q district.next_order → count ≡ low_stock rows q
unfolding low_stock
level_is rows q district count here counted = counted ∙ (λ i. low_before rows q (unwrap_or (sym here i) no_district).next_order)
