-- The numbers of a STOCK row, line after line.
use Rattle.std.proofs.Common.{◌≡◌, ℕ, ◌+◌, ◌*◌, ◌≤◌, ◌==◌, Bool, true, false, List, [], ◌∷◌, length, refl, sym, ap, ◌∙◌, arith}
use Rattle.std.specs.Prelude.{◌&&◌, ◌||◌, fold, filter, not, nat_lt, if◌then◌else◌}
use Rattle.std.specs.List.{list_all}
use Rattle.std.proofs.lemmas.Bool.Decides.{nat_tests}
use Rattle.tpcc_rows.specs.declared.tables.rows.StockRow.{StockRow}
use Rattle.tpcc_rows.specs.declared.transactions.requests.Line.{Line}
use Rattle.tpcc_rows.specs.Ranges.{is_within, is_count, is_stock_row, is_text, is_exact_text, greatest_count, greatest_stock_ytd}
use Rattle.tpcc_rows.specs.NewOrder.{quantity_after, stock_after_line, stock_after}
use Rattle.tpcc_rows.proofs.Booleans.{split}
use Rattle.tpcc_laws.proofs.Numbers.{within, is_in}
use Rattle.tpcc_new_order.specs.declared.reading.ranges.Overruns.{Overruns}
use Rattle.tpcc_new_order.specs.declared.writing.supply.StockNumbers.{StockNumbers}
use Rattle.tpcc_new_order.specs.Internal.Supplied.{numbers_of, numbers_after_line, is_far, IsNear}
use Rattle.tpcc_new_order.specs.Internal.Tests.{overruns_with}

abbrev is_line_of_item : ℕ → ℕ → Line → Bool
is_line_of_item w i l = (l.supply == w) && (l.item == i)

-- one line taken, or passed over
line_taken : (home : ℕ) (s t : StockRow) (l : Line) (ls : List Line) (b : Bool) → is_line_of_item s.warehouse s.item l ≡ b → t.warehouse ≡ s.warehouse → fold (stock_after_line home) (if b then stock_after_line home t l else t) ls ≡ fold (stock_after_line home) t (if b then l ∷ ls else ls)
line_taken home s t l ls true e w = refl
line_taken home s t l ls false e w = refl

one_line : (home : ℕ) (s t : StockRow) (l : Line) (b : Bool) → is_line_of_item s.warehouse s.item l ≡ b → t.warehouse ≡ s.warehouse → numbers_after_line home s (numbers_of t) l ≡ numbers_of (if b then stock_after_line home t l else t)
one_line home s t l true e w = λ i. if e i then record { quantity = quantity_after t.quantity l.quantity; ytd = t.ytd + l.quantity; order_count = t.order_count + 1; remote_count = if sym w i == home then t.remote_count else t.remote_count + 1 } else numbers_of t
one_line home s t l false e w = λ i. if e i then record { quantity = quantity_after t.quantity l.quantity; ytd = t.ytd + l.quantity; order_count = t.order_count + 1; remote_count = if s.warehouse == home then t.remote_count else t.remote_count + 1 } else numbers_of t

same_home : (home : ℕ) (t : StockRow) (l : Line) (b : Bool) → (if b then stock_after_line home t l else t).warehouse ≡ t.warehouse
same_home home t l true = refl
same_home home t l false = refl

fold_numbers : (home : ℕ) (s t : StockRow) (ls : List Line) → t.warehouse ≡ s.warehouse → fold (numbers_after_line home s) (numbers_of t) ls ≡ numbers_of (fold (stock_after_line home) t (filter (is_line_of_item s.warehouse s.item) ls))
fold_numbers home s t [] w = refl
fold_numbers home s t (l ∷ ls) w =
    let b = is_line_of_item s.warehouse s.item l in
    let next : StockRow = if b then stock_after_line home t l else t in
    (λ i. fold (numbers_after_line home s) (one_line home s t l b refl w i) ls)
    ∙ fold_numbers home s next ls (same_home home t l b ∙ w)
    ∙ ap numbers_of (line_taken home s t l (filter (is_line_of_item s.warehouse s.item) ls) b refl w)

-- all lines, one after another
pub numbers_in_turn : (home : ℕ) (s : StockRow) (lines : List Line) → fold (numbers_after_line home s) (numbers_of s) lines ≡ numbers_of (stock_after home lines s)
numbers_in_turn home s lines = fold_numbers home s s lines refl

-- a STOCK row in range is near with no line taken
pub near_start : (s : StockRow) → is_stock_row s ≡ true → IsNear 0 (numbers_of s)
unfolding is_stock_row
near_start s h =
    let r = split _ (is_within 0 greatest_count s.remote_count) (split _ (is_text 50 s.information) h).0 in
    let o = split _ (is_within 0 greatest_count s.order_count) r.0 in
    let y = split _ (is_within 0 greatest_stock_ytd s.ytd) o.0 in
    let t = split _ (list_all (is_exact_text 24) s.district_information) y.0 in
    let n = split _ (length s.district_information == 10) t.0 in
    let q = split _ (is_within 10 100 s.quantity) n.0 in
    record {
      quantity = (within 10 100 s.quantity q.1).1;
      ytd = omega (arith, (within 0 greatest_stock_ytd s.ytd y.1).1);
      orders = omega (arith, (within 0 greatest_count s.order_count o.1).1);
      remotes = omega (arith, (within 0 greatest_count s.remote_count r.1).1);
    }

-- ---- a row that is far from its limits

remote_adds : (b : Bool) (n : ℕ) → (if b then n else n + 1) ≤ n + 1
remote_adds true n = omega arith
remote_adds false n = omega arith

-- what a line adds at most
abbrev AddsFew : StockNumbers → StockNumbers → ℕ → Type 0
AddsFew old new lines = (new.ytd ≤ old.ytd + 10 * lines) × (new.order_count ≤ old.order_count + lines) × (new.remote_count ≤ old.remote_count + lines)

abbrev with_line_if : Bool → ℕ → StockRow → StockNumbers → Line → StockNumbers
with_line_if b home s n l =
    if b then record {
      quantity = quantity_after n.quantity l.quantity;
      ytd = n.ytd + l.quantity;
      order_count = n.order_count + 1;
      remote_count = if s.warehouse == home then n.remote_count else n.remote_count + 1;
    } else n

adds_if : (b : Bool) (home : ℕ) (s : StockRow) (n : StockNumbers) (l : Line) → l.quantity ≤ 10 → AddsFew n (with_line_if b home s n l) 1
adds_if true home s n l q = (omega (arith, q), omega arith, remote_adds (s.warehouse == home) n.remote_count)
adds_if false home s n l q = (omega arith, omega arith, omega arith)

line_adds : (home : ℕ) (s : StockRow) (n : StockNumbers) (l : Line) → l.quantity ≤ 10 → AddsFew n (numbers_after_line home s n l) 1
line_adds home s n l q = adds_if ((l.supply == s.warehouse) && (l.item == s.item)) home s n l q

lines_add : (home : ℕ) (s : StockRow) (n : StockNumbers) (ls : List Line) → list_all (λ l. is_within 1 10 l.quantity) ls ≡ true → AddsFew n (fold (numbers_after_line home s) n ls) (length ls)
lines_add home s n [] h = (omega arith, omega arith, omega arith)
lines_add home s n (l ∷ ls) h =
    let here : is_within 1 10 l.quantity ≡ true = grind (arith, h) in
    let rest : list_all (λ x. is_within 1 10 x.quantity) ls ≡ true = grind (arith, h) in
    let one = line_adds home s n l (within 1 10 l.quantity here).1 in
    let all = lines_add home s (numbers_after_line home s n l) ls rest in
    (omega (arith, one.0, all.0), omega (arith, one.1, all.1), omega (arith, one.2, all.2))

or_not : (a b : Bool) → b ≡ true → a ≡ (a || not b)
or_not true b e = refl
or_not false b e = ap not (sym e)

or_no : (a b : Bool) → b ≡ false → a ≡ (a || b)
or_no true b e = refl
or_no false b e = sym e

far_tells : (s : StockRow) → is_far s ≡ true → (s.ytd + 150 ≤ greatest_stock_ytd) × (s.order_count + 15 ≤ greatest_count) × (s.remote_count + 15 ≤ greatest_count)
far_tells s h = (grind (arith, nat_tests, h), grind (arith, nat_tests, h), grind (arith, nat_tests, h))

not_over : (n : ℕ) → n ≤ greatest_stock_ytd → nat_lt greatest_stock_ytd n ≡ false
not_over n h = grind (arith, nat_tests, h)

within_if : (over : Overruns) (n : StockNumbers) → n.ytd ≤ greatest_stock_ytd → n.order_count ≤ greatest_count → n.remote_count ≤ greatest_count → over ≡ overruns_with over n
within_if over n y o r = λ i. record {
  orders = or_not over.orders (is_count n.order_count) (is_in 0 greatest_count n.order_count (omega arith) o) i;
  remotes = or_not over.remotes (is_count n.remote_count) (is_in 0 greatest_count n.remote_count (omega arith) r) i;
  ytd = or_no over.ytd (nat_lt greatest_stock_ytd n.ytd) (not_over n.ytd y) i;
}

-- no column of it is past its limit after the lines of an order
pub far_is_within : (home : ℕ) (s : StockRow) (ls : List Line) (over : Overruns) → is_far s ≡ true → length ls ≤ 15 → list_all (λ l. is_within 1 10 l.quantity) ls ≡ true → over ≡ overruns_with over (numbers_of (stock_after home ls s))
far_is_within home s ls over far few quantities =
    let adds = lines_add home s (numbers_of s) ls quantities in
    let f = far_tells s far in
    within_if over (fold (numbers_after_line home s) (numbers_of s) ls) (omega (arith, adds.0, f.0, few)) (omega (arith, adds.1, f.1, few)) (omega (arith, adds.2, f.2, few))
    ∙ ap (overruns_with over) (numbers_in_turn home s ls)
