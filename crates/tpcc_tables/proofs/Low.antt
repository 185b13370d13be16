-- Distinct items that are low in stock.
use Rattle.std.proofs.Common.{◌≡◌, ℕ, suc, ◌+◌, ◌<◌, Bool, true, false, List, [], ◌∷◌, refl, sym, ap, ◌∙◌, arith, length, map, get_or, drop}
use Rattle.std.specs.Prelude.{filter, find, ◌&&◌, ◌==◌, not, ◌||◌, nat_lt, if◌then◌else◌}
use Rattle.std.specs.List.{list_any}
use Rattle.std.proofs.Math.Seq.{drop-cons}
use Rattle.std.proofs.lemmas.Bool.Decides.{nat_tests}
use Rattle.tpcc_rows.specs.declared.tables.rows.StockRow.{StockRow}
use Rattle.tpcc_rows.specs.declared.tables.rows.OrderLineRow.{OrderLineRow}
use Rattle.tpcc_rows.specs.Lists.{key_before, distinct, is_ascending}
use Rattle.tpcc_rows.specs.Tables.{is_stock, stock_key}
use Rattle.tpcc_tables.proofs.Filter.{found_passes, any-key}

stocks_apart : (w item : ℕ) (a b : StockRow) → is_stock w item a ≡ true → is_stock w item b ≡ true → key_before (stock_key a) (stock_key b) ≡ false
stocks_apart w item a b ha hb = grind (arith, nat_tests)

-- whether an item's stock is below a threshold
abbrev pub is_below : List StockRow → ℕ → ℕ → ℕ → Bool
is_below stocks w threshold item = list_any (λ s. is_stock w item s && nat_lt s.quantity threshold) stocks

-- an item is low exactly where its STOCK row is
pub low_is : (stocks : List StockRow) (w threshold item : ℕ) → is_ascending stock_key stocks ≡ true → is_below stocks w threshold item ≡ found_passes (λ s. nat_lt s.quantity threshold) (find (is_stock w item) stocks)
low_is stocks w threshold item up = any-key stock_key (is_stock w item) (λ s. nat_lt s.quantity threshold) (stocks_apart w item) stocks up

-- how many distinct items pass
abbrev pub passing : (ℕ → Bool) → List OrderLineRow → ℕ
passing low lines = length (filter low (distinct (map (λ l. l.item) lines)))

any-item : (item : ℕ) (lines : List OrderLineRow) → list_any (λ m. m == item) (map (λ x. x.item) lines) ≡ list_any (λ l. l.item == item) lines
any-item item [] = refl
any-item item (l ∷ lines) = ap (λ b. (l.item == item) || b) (any-item item lines)

-- one more line in front: its item counts where it passes and no later line has it
one_more : (low : ℕ → Bool) (l : OrderLineRow) (lines : List OrderLineRow) → passing low (l ∷ lines) ≡ (if low l.item && not (list_any (λ x. x.item == l.item) lines) then 1 + passing low lines else passing low lines)
one_more low l lines = let e = any-item l.item lines in grind arith

next_count : (b counted : Bool) (rest here total count : ℕ) → here ≡ (if counted then 1 + rest else rest) → b ≡ counted → count + here ≡ total → (if b then count + 1 else count) + rest ≡ total
next_count true true rest here total count k f h = omega (arith, k)
next_count false false rest here total count k f h = omega (arith, k)
next_count true false rest here total count k f h = cc
next_count false true rest here total count k f h = cc

drop_next : (lines : List OrderLineRow) (i : ℕ) (d : OrderLineRow) → i < length lines → drop i lines ≡ get_or lines i d ∷ drop (i + 1) lines
drop_next lines i d h = let e : suc i ≡ i + 1 = omega arith in drop-cons lines i d h ∙ (λ j. get_or lines i d ∷ drop (e j) lines)

-- the count after the line at a place
pub next_place : (low : ℕ → Bool) (lines later : List OrderLineRow) (i : ℕ) (l : OrderLineRow) (b : Bool) (total count : ℕ) → i < length lines → l ≡ get_or lines i l → later ≡ drop (i + 1) lines → b ≡ low l.item && not (list_any (λ x. x.item == l.item) later) → count + passing low (drop i lines) ≡ total → (if b then count + 1 else count) + passing low (drop (i + 1) lines) ≡ total
next_place low lines later i l b total count h at k f e =
    let rest = drop (i + 1) lines in
    let here = drop_next lines i l h ∙ (λ j. sym at j ∷ rest) in
    next_count b (low l.item && not (list_any (λ x. x.item == l.item) rest)) (passing low rest) (passing low (drop i lines)) total count (ap (passing low) here ∙ one_more low l rest) (f ∙ (λ j. low l.item && not (list_any (λ x. x.item == l.item) (k j)))) e
