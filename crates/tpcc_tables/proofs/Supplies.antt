-- STOCK rows, line after line.
use Rattle.std.proofs.Common.{◌≡◌, ℕ, zero, suc, ◌+◌, ◌*◌, ◌<◌, ◌≤◌, ◌==◌, Bool, true, false, List, [], ◌∷◌, length, map, get_or, refl, sym, ap, ◌∙◌, arith}
use Rattle.std.specs.Prelude.{◌&&◌, fold, nat_le, if◌then◌else◌}
use Rattle.std.specs.List.{list_all}
use Rattle.std.proofs.lemmas.Bool.Decides.{nat_tests}
use Rattle.std.proofs.lemmas.List.Folds.{fold-map}
use Rattle.tpcc_rows.specs.declared.tables.rows.StockRow.{StockRow}
use Rattle.tpcc_rows.specs.declared.tables.rows.OrderLineRow.{OrderLineRow}
use Rattle.tpcc_rows.specs.declared.transactions.requests.Line.{Line}
use Rattle.tpcc_rows.specs.Lists.{updated, is_ascending}
use Rattle.tpcc_rows.specs.Ranges.{is_within, is_stock_row, is_text, is_exact_text, greatest_count, greatest_stock_ytd}
use Rattle.tpcc_rows.specs.Tables.{stock_key}
use Rattle.tpcc_rows.specs.NewOrder.{quantity_after, stock_after_line, stock_after}
use Rattle.tpcc_laws.proofs.List.{ascending-updated, list_all-updated, list_all-mono}
use Rattle.tpcc_laws.proofs.Body.{lines_one_by_one}
use Rattle.tpcc_rows.proofs.Booleans.{split, both_true}
use Rattle.tpcc_laws.proofs.Numbers.{within}
use Rattle.tpcc_storage.specs.Searches.{is_same_key}
use Rattle.tpcc_tables.specs.Writes.{line_of}
use Rattle.tpcc_tables.specs.Internal.Supplies.{is_supplied_by, HasRoomFor, is_near}

-- the STOCK row of a line has its key
pub supply_test : (l : Line) (s : StockRow) → is_same_key (stock_key s) (l.supply ∷ l.item ∷ []) ≡ is_supplied_by l s
supply_test l s = grind (arith, nat_tests)

-- the STOCK rows after one line
abbrev pub after_line : ℕ → List StockRow → Line → List StockRow
after_line home stocks l = updated (is_supplied_by l) (λ s. stock_after_line home s l) stocks

at_most : (n m : ℕ) → nat_le n m ≡ true → n ≤ m
at_most n m e = grind (arith, nat_tests)

is_at_most : (n m : ℕ) → n ≤ m → nat_le n m ≡ true
is_at_most n m h = grind (arith, nat_tests)

pub near_tells : (n : ℕ) (s : StockRow) → is_near n s ≡ true → (is_within 10 100 s.quantity ≡ true) × (s.ytd ≤ greatest_stock_ytd + 10 * n) × (s.order_count ≤ greatest_count + n) × (s.remote_count ≤ greatest_count + n)
near_tells n s h =
    let a = split (is_within 10 100 s.quantity && nat_le s.ytd (greatest_stock_ytd + 10 * n) && nat_le s.order_count (greatest_count + n)) (nat_le s.remote_count (greatest_count + n)) h in
    let b = split (is_within 10 100 s.quantity && nat_le s.ytd (greatest_stock_ytd + 10 * n)) (nat_le s.order_count (greatest_count + n)) a.0 in
    let d = split (is_within 10 100 s.quantity) (nat_le s.ytd (greatest_stock_ytd + 10 * n)) b.0 in
    (d.0, at_most _ _ d.1, at_most _ _ b.1, at_most _ _ a.1)

pub near_has_room : (n q : ℕ) (s : StockRow) → n ≤ 15 → q ≤ 10 → is_near n s ≡ true → HasRoomFor q s
near_has_room n q s few small h =
    let k = near_tells n s h in
    let stock = within 10 100 s.quantity k.0 in
    record { stock = stock.1; ytd = omega (arith, k.1); orders = omega (arith, k.2); remotes = omega (arith, k.3) }

is_near_of : (n : ℕ) (s : StockRow) → is_within 10 100 s.quantity ≡ true → s.ytd ≤ greatest_stock_ytd + 10 * n → s.order_count ≤ greatest_count + n → s.remote_count ≤ greatest_count + n → is_near n s ≡ true
is_near_of n s q y o r = both_true _ _ (both_true _ _ (both_true _ _ q (is_at_most _ _ y)) (is_at_most _ _ o)) (is_at_most _ _ r)

quantity_stays : (stock q : ℕ) → is_within 10 100 stock ≡ true → is_within 1 10 q ≡ true → is_within 10 100 (quantity_after stock q) ≡ true
quantity_stays stock q h k =
    let s = within 10 100 stock h in
    let t = within 1 10 q k in
    grind (arith, nat_tests)

remote_stays : (b : Bool) (r m n : ℕ) → r ≤ m + n → (if b then r else r + 1) ≤ m + (n + 1)
remote_stays true r m n h = omega arith
remote_stays false r m n h = omega arith

near_later : (n : ℕ) (s : StockRow) → is_near n s ≡ true → is_near (n + 1) s ≡ true
near_later n s h = let k = near_tells n s h in is_near_of (n + 1) s k.0 (omega (arith, k.1)) (omega (arith, k.2)) (omega (arith, k.3))

near_taken : (home n : ℕ) (l : Line) (s : StockRow) → is_within 1 10 l.quantity ≡ true → is_near n s ≡ true → is_near (n + 1) (stock_after_line home s l) ≡ true
near_taken home n l s q h =
    let k = near_tells n s h in
    let few = within 1 10 l.quantity q in
    is_near_of (n + 1) (stock_after_line home s l) (quantity_stays s.quantity l.quantity k.0 q) (omega (arith, k.1, few.1)) (omega (arith, k.2)) (remote_stays (s.warehouse == home) s.remote_count greatest_count n k.3)

pub near_after : (home n : ℕ) (l : Line) (stocks : List StockRow) → is_within 1 10 l.quantity ≡ true → list_all (is_near n) stocks ≡ true → list_all (is_near (n + 1)) (after_line home stocks l) ≡ true
near_after home n l stocks q h = list_all-updated (is_near n) (is_near (n + 1)) (is_supplied_by l) (λ s. stock_after_line home s l) (λ s k other. near_later n s k) (λ s k this. near_taken home n l s q k) stocks h

pub keyed_after : (home : ℕ) (l : Line) (stocks : List StockRow) → is_ascending stock_key stocks ≡ true → is_ascending stock_key (after_line home stocks l) ≡ true
keyed_after home l stocks h = ascending-updated stock_key (is_supplied_by l) (λ s. stock_after_line home s l) (λ s. refl) stocks ∙ h

-- all lines, one after another
pub lines_in_turn : (home : ℕ) (lines : List OrderLineRow) (stocks : List StockRow) → fold (λ ss l. after_line home ss (line_of l)) stocks lines ≡ map (stock_after home (map line_of lines)) stocks
lines_in_turn home lines stocks = sym (fold-map (after_line home) line_of stocks lines) ∙ lines_one_by_one home (map line_of lines) stocks

-- a STOCK row in range is near with no line taken
near_start : (s : StockRow) → is_stock_row s ≡ true → is_near 0 s ≡ true
unfolding is_stock_row
near_start s h =
    let r = split _ (is_within 0 greatest_count s.remote_count) (split _ (is_text 50 s.information) h).0 in
    let o = split _ (is_within 0 greatest_count s.order_count) r.0 in
    let y = split _ (is_within 0 greatest_stock_ytd s.ytd) o.0 in
    let t = split _ (list_all (is_exact_text 24) s.district_information) y.0 in
    let n = split _ (length s.district_information == 10) t.0 in
    let q = split _ (is_within 10 100 s.quantity) n.0 in
    is_near_of 0 s q.1 (omega (arith, (within 0 greatest_stock_ytd s.ytd y.1).1)) (omega (arith, (within 0 greatest_count s.order_count o.1).1)) (omega (arith, (within 0 greatest_count s.remote_count r.1).1))

pub near_starts : (stocks : List StockRow) → list_all is_stock_row stocks ≡ true → list_all (is_near 0) stocks ≡ true
near_starts stocks h = list_all-mono is_stock_row (is_near 0) near_start stocks h

-- each line's quantity is in range, and so is the one at a place
pub quantity_at : (lines : List OrderLineRow) (i : ℕ) (l : OrderLineRow) → i < length lines → l ≡ get_or lines i l → list_all (λ l. is_within 1 10 l.quantity) lines ≡ true → is_within 1 10 l.quantity ≡ true
quantity_at [] i l lt e h = absurd (omega arith)
quantity_at (x ∷ lines) zero l lt e h = ap (λ (y : OrderLineRow). is_within 1 10 y.quantity) e ∙ (split (is_within 1 10 x.quantity) _ h).0
quantity_at (x ∷ lines) (suc i) l lt e h = quantity_at lines i l (omega arith) e (split (is_within 1 10 x.quantity) _ h).1
