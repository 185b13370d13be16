-- The lines of an order lie side by side.
use Rattle.std.proofs.Common.{◌≡◌, ◌∙◌, ℕ, ◌-◌, ◌≤◌, Bool, true, List, [], ◌∷◌, take, drop, arith}
use Rattle.std.specs.Prelude.{not, filter}
use Rattle.std.specs.List.{prefix_len}
use Rattle.std.proofs.lemmas.Bool.Decides.{nat_tests}
use Rattle.tpcc_rows.specs.declared.tables.rows.OrderLineRow.{OrderLineRow}
use Rattle.tpcc_rows.specs.Lists.{updated, key_before, is_ascending}
use Rattle.tpcc_rows.specs.Tables.{is_line_of, order_line_key}
use Rattle.tpcc_storage.specs.Runs.{is_line_between}
use Rattle.tpcc_storage.proofs.Halves.{before_key, not_after}
use Rattle.tpcc_storage.proofs.Stretch.{within, changed, run_is, run_changed, same_filter, same_updated}

abbrev pub line_before : ℕ → ℕ → ℕ → OrderLineRow → Bool
line_before w d o l = key_before (order_line_key l) (w ∷ d ∷ o ∷ [])

abbrev pub line_not_after : ℕ → ℕ → ℕ → OrderLineRow → Bool
line_not_after w d o l = not (key_before (w ∷ d ∷ o ∷ []) (order_line_key l))

pub before_not_after : (w d o : ℕ) (l : OrderLineRow) → line_before w d o l ≡ true → line_not_after w d o l ≡ true
before_not_after w d o l h = grind (arith, nat_tests)

line_is : (w d o : ℕ) (l : OrderLineRow) → within (line_before w d o) (line_not_after w d o) l ≡ is_line_of w d o l
line_is w d o l = grind (arith, nat_tests)

pub lines_are : (w d o : ℕ) (rows : List OrderLineRow) → is_ascending order_line_key rows ≡ true → take (prefix_len (line_not_after w d o) rows - prefix_len (line_before w d o) rows) (drop (prefix_len (line_before w d o) rows) rows) ≡ filter (is_line_of w d o) rows
lines_are w d o rows keyed =
    run_is (line_before w d o) (line_not_after w d o) (before_not_after w d o) rows (before_key order_line_key (w ∷ d ∷ o ∷ []) rows keyed) (not_after order_line_key (w ∷ d ∷ o ∷ []) rows keyed)
    ∙ same_filter (within (line_before w d o) (line_not_after w d o)) (is_line_of w d o) (line_is w d o) rows

pub lines_changed : (w d o : ℕ) (change : OrderLineRow → OrderLineRow) (rows : List OrderLineRow) → is_ascending order_line_key rows ≡ true → changed change (prefix_len (line_before w d o) rows) (prefix_len (line_not_after w d o) rows - prefix_len (line_before w d o) rows) rows ≡ updated (is_line_of w d o) change rows
lines_changed w d o change rows keyed =
    run_changed (line_before w d o) (line_not_after w d o) change (before_not_after w d o) rows (before_key order_line_key (w ∷ d ∷ o ∷ []) rows keyed) (not_after order_line_key (w ∷ d ∷ o ∷ []) rows keyed)
    ∙ same_updated (within (line_before w d o) (line_not_after w d o)) (is_line_of w d o) change (line_is w d o) rows

-- ---- the lines of orders in a row

pub before_later : (w d a b : ℕ) → a ≤ b → (l : OrderLineRow) → line_before w d a l ≡ true → line_before w d b l ≡ true
before_later w d a b le l h = grind (arith, nat_tests)

between_is : (w d a b : ℕ) → a ≤ b → (l : OrderLineRow) → within (line_before w d a) (line_before w d b) l ≡ is_line_between w d a b l
between_is w d a b le l = grind (arith, nat_tests)

pub lines_between_are : (w d a b : ℕ) (rows : List OrderLineRow) → a ≤ b → is_ascending order_line_key rows ≡ true → take (prefix_len (line_before w d b) rows - prefix_len (line_before w d a) rows) (drop (prefix_len (line_before w d a) rows) rows) ≡ filter (is_line_between w d a b) rows
lines_between_are w d a b rows le keyed =
    run_is (line_before w d a) (line_before w d b) (before_later w d a b le) rows (before_key order_line_key (w ∷ d ∷ a ∷ []) rows keyed) (before_key order_line_key (w ∷ d ∷ b ∷ []) rows keyed)
    ∙ same_filter (within (line_before w d a) (line_before w d b)) (is_line_between w d a b) (between_is w d a b le) rows
