-- The first failing row of the first rows.
use Rattle.std.proofs.Common.{◌≡◌, ℕ, zero, suc, ◌+◌, Bool, List, [], ◌∷◌, length, take, refl, ◌∙◌, arith, Some, None}
use Rattle.std.specs.Prelude.{slice_get}
use Rattle.std.specs.Option.{option_or}
use Rattle.tpcc_rows.specs.Conditions.{Broken, first_failing, at_warehouse, at_district, at_order, at_order_line, at_customer, keeps_1, keeps_2, keeps_3, keeps_4, keeps_5, keeps_6, keeps_7, keeps_8, keeps_9, keeps_10, keeps_11, keeps_12}
use Rattle.tpcc_rows.specs.Tables.{Rows}
use Rattle.tpcc_tables.specs.Positions.{count_of}
use Rattle.tpcc_conditions.specs.declared.condition.Condition.{Condition}
use Rattle.tpcc_conditions.specs.declared.condition.Condition.TheVariants.{One, Two, Three, Four, Five, Six, Seven, Eight, Nine, Ten, Eleven, Twelve}
use Rattle.tpcc_conditions.specs.First.{first_of}
use Rattle.tpcc_conditions.specs.Internal.First.{failing_row, failing_at, first_to, tested_table}

take_suc : {X : Type 0} (keeps : X → Bool) (broken : X → Broken) (xs : List X) (i : ℕ) → first_failing keeps broken (take (suc i) xs) ≡ option_or (first_failing keeps broken (take i xs)) (failing_row keeps broken (slice_get xs i))
take_suc keeps broken [] zero = refl
take_suc keeps broken [] (suc i) = refl
take_suc keeps broken (x ∷ xs) zero = grind arith
take_suc keeps broken (x ∷ xs) (suc i) = grind (arith, take_suc keeps broken xs i)

take_next : {X : Type 0} (keeps : X → Bool) (broken : X → Broken) (xs : List X) (i : ℕ) → first_failing keeps broken (take (i + 1) xs) ≡ option_or (first_failing keeps broken (take i xs)) (failing_row keeps broken (slice_get xs i))
take_next keeps broken xs i = let e : i + 1 ≡ suc i = omega arith in (λ j. first_failing keeps broken (take (e j) xs)) ∙ take_suc keeps broken xs i

early : {X : Type 0} (keeps : X → Bool) (broken : X → Broken) (xs : List X) (i : ℕ) (b : Broken) → first_failing keeps broken (take i xs) ≡ Some b → first_failing keeps broken xs ≡ Some b
early keeps broken [] zero b e = e
early keeps broken [] (suc i) b e = e
early keeps broken (x ∷ xs) zero b e = cc
early keeps broken (x ∷ xs) (suc i) b e = grind (arith, early keeps broken xs i b)

all_rows : {X : Type 0} (keeps : X → Bool) (broken : X → Broken) (xs : List X) → first_failing keeps broken (take (length xs) xs) ≡ first_failing keeps broken xs
all_rows keeps broken [] = refl
all_rows keeps broken (x ∷ xs) = grind (arith, all_rows keeps broken xs)

pub next_row : (condition : Condition) (rows : Rows) (i : ℕ) → first_to condition rows (i + 1) ≡ option_or (first_to condition rows i) (failing_at condition rows i)
unfolding first_to failing_at
next_row One rows i = take_next (keeps_1 rows) (at_warehouse 1) rows.warehouses i
next_row Two rows i = take_next (keeps_2 rows) (at_district 2) rows.districts i
next_row Three rows i = take_next (keeps_3 rows) (at_district 3) rows.districts i
next_row Four rows i = take_next (keeps_4 rows) (at_district 4) rows.districts i
next_row Five rows i = take_next (keeps_5 rows) (at_order 5) rows.orders i
next_row Six rows i = take_next (keeps_6 rows) (at_order 6) rows.orders i
next_row Seven rows i = take_next (keeps_7 rows) (at_order_line 7) rows.order_lines i
next_row Eight rows i = take_next (keeps_8 rows) (at_warehouse 8) rows.warehouses i
next_row Nine rows i = take_next (keeps_9 rows) (at_district 9) rows.districts i
next_row Ten rows i = take_next (keeps_10 rows) (at_customer 10) rows.customers i
next_row (Eleven customers) rows i = take_next (keeps_11 customers rows) (at_district 11) rows.districts i
next_row Twelve rows i = take_next (keeps_12 rows) (at_customer 12) rows.customers i

pub no_row : (condition : Condition) (rows : Rows) → first_to condition rows 0 ≡ None
unfolding first_to
no_row One rows = refl
no_row Two rows = refl
no_row Three rows = refl
no_row Four rows = refl
no_row Five rows = refl
no_row Six rows = refl
no_row Seven rows = refl
no_row Eight rows = refl
no_row Nine rows = refl
no_row Ten rows = refl
no_row (Eleven customers) rows = refl
no_row Twelve rows = refl

pub found_early : (condition : Condition) (rows : Rows) (i : ℕ) (b : Broken) → first_to condition rows i ≡ Some b → first_of condition rows ≡ Some b
unfolding first_to
found_early One rows i b e = early (keeps_1 rows) (at_warehouse 1) rows.warehouses i b e
found_early Two rows i b e = early (keeps_2 rows) (at_district 2) rows.districts i b e
found_early Three rows i b e = early (keeps_3 rows) (at_district 3) rows.districts i b e
found_early Four rows i b e = early (keeps_4 rows) (at_district 4) rows.districts i b e
found_early Five rows i b e = early (keeps_5 rows) (at_order 5) rows.orders i b e
found_early Six rows i b e = early (keeps_6 rows) (at_order 6) rows.orders i b e
found_early Seven rows i b e = early (keeps_7 rows) (at_order_line 7) rows.order_lines i b e
found_early Eight rows i b e = early (keeps_8 rows) (at_warehouse 8) rows.warehouses i b e
found_early Nine rows i b e = early (keeps_9 rows) (at_district 9) rows.districts i b e
found_early Ten rows i b e = early (keeps_10 rows) (at_customer 10) rows.customers i b e
found_early (Eleven customers) rows i b e = early (keeps_11 customers rows) (at_district 11) rows.districts i b e
found_early Twelve rows i b e = early (keeps_12 rows) (at_customer 12) rows.customers i b e

pub all_are : (condition : Condition) (rows : Rows) → first_to condition rows (count_of rows (tested_table condition)) ≡ first_of condition rows
unfolding first_to count_of
all_are One rows = all_rows (keeps_1 rows) (at_warehouse 1) rows.warehouses
all_are Two rows = all_rows (keeps_2 rows) (at_district 2) rows.districts
all_are Three rows = all_rows (keeps_3 rows) (at_district 3) rows.districts
all_are Four rows = all_rows (keeps_4 rows) (at_district 4) rows.districts
all_are Five rows = all_rows (keeps_5 rows) (at_order 5) rows.orders
all_are Six rows = all_rows (keeps_6 rows) (at_order 6) rows.orders
all_are Seven rows = all_rows (keeps_7 rows) (at_order_line 7) rows.order_lines
all_are Eight rows = all_rows (keeps_8 rows) (at_warehouse 8) rows.warehouses
all_are Nine rows = all_rows (keeps_9 rows) (at_district 9) rows.districts
all_are Ten rows = all_rows (keeps_10 rows) (at_customer 10) rows.customers
all_are (Eleven customers) rows = all_rows (keeps_11 customers rows) (at_district 11) rows.districts
all_are Twelve rows = all_rows (keeps_12 rows) (at_customer 12) rows.customers

pub fails_here : (condition : Condition) (rows : Rows) (i : ℕ) (b : Broken) → first_to condition rows i ≡ None → failing_at condition rows i ≡ Some b → first_of condition rows ≡ Some b
fails_here condition rows i b none here = found_early condition rows (i + 1) b (next_row condition rows i ∙ (λ j. option_or (none j) (here j)))

pub keeps_here : (condition : Condition) (rows : Rows) (i : ℕ) → first_to condition rows i ≡ None → failing_at condition rows i ≡ None → first_to condition rows (i + 1) ≡ None
keeps_here condition rows i none here = next_row condition rows i ∙ (λ j. option_or (none j) (here j))
