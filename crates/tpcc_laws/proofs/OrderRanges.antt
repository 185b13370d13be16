-- A New-Order that nothing refuses and that is not rolled back keeps the ranges of all columns.
use Rattle.std.proofs.Common.{◌≡◌, ℕ, zero, suc, ◌+◌, ◌*◌, ◌==◌, ◌≤◌, ◌<◌, Bool, true, false, List, [], ◌∷◌, length, refl, ap, ◌∙◌, arith, Some, Option}
use Rattle.std.specs.Prelude.{ℤ, pos, negsuc, ◌&&◌, find, filter, fold, map, unwrap_or, slice_get}
use Rattle.std.specs.List.{list_all, list_any, enumerate_from}
use Rattle.std.proofs.lemmas.Int.{ints}
use Rattle.std.proofs.lemmas.Nat.{mul-le}
use Rattle.std.proofs.lemmas.Bool.Decides.{nat_tests}
use Rattle.tpcc_money.specs.Amounts.{line_amount}
use Rattle.tpcc_rows.specs.declared.tables.rows.StockRow.{StockRow}
use Rattle.tpcc_rows.specs.declared.tables.rows.OrderLineRow.{OrderLineRow}
use Rattle.tpcc_rows.specs.declared.transactions.requests.Line.{Line}
use Rattle.tpcc_rows.specs.Lists.{key_before, is_ascending}
use Rattle.tpcc_rows.specs.Ranges.{is_within, is_stock_row, is_item_id, is_warehouse_id, is_exact_text, is_text, is_count, greatest_stock_ytd, is_amount_within}
use Rattle.tpcc_rows.specs.Tables.{stock_key, is_stock, no_stock}
use Rattle.tpcc_rows.specs.NewOrder.{quantity_after, stock_after_line, stock_after, lines_from}
use Rattle.tpcc_rows.proofs.Booleans.{split, both_true}
use Rattle.tpcc_laws.proofs.Numbers.{amount_within, is_amount, within}
use Rattle.tpcc_laws.proofs.ChosenRow.{Each, each-with}
use Rattle.tpcc_rows.specs.declared.limits.TheConstants.{GREATEST_LINE_AMOUNT}
use Rattle.tpcc_money.specs.declared.amounts.TheConstants.{GREATEST_PRICE}

-- ---- one STOCK row

quantity_stays : (s q : ℕ) → is_within 10 100 s ≡ true → is_within 1 10 q ≡ true → is_within 10 100 (quantity_after s q) ≡ true
quantity_stays s q hs hq = let a = within 10 100 s hs in let b = within 1 10 q hq in grind (arith, nat_tests)

quantities_stay : (home : ℕ) (ls : List Line) (s : StockRow) → is_within 10 100 s.quantity ≡ true → list_all (λ l. is_within 1 10 l.quantity) ls ≡ true → is_within 10 100 (fold (stock_after_line home) s ls).quantity ≡ true
quantities_stay home [] s h all = h
quantities_stay home (l ∷ ls) s h all =
    let a = split (is_within 1 10 l.quantity) (list_all (λ l. is_within 1 10 l.quantity) ls) all in
    quantities_stay home ls (stock_after_line home s l) (quantity_stays s.quantity l.quantity h a.0) a.1

column_stays : {C : Type 0} (column : StockRow → C) → ((home : ℕ) (s : StockRow) (l : Line) → column (stock_after_line home s l) ≡ column s) → (home : ℕ) (ls : List Line) (s : StockRow) → column (fold (stock_after_line home) s ls) ≡ column s
column_stays column same home [] s = refl
column_stays column same home (l ∷ ls) s = column_stays column same home ls (stock_after_line home s l) ∙ same home s l

all-filter : {X : Type 0} (test q : X → Bool) (xs : List X) → list_all test xs ≡ true → list_all test (filter q xs) ≡ true
all-filter test q [] h = refl
all-filter test q (x ∷ xs) h = grind (arith, all-filter test q xs)

stock_changed : (a b q n d y o r t q' y' o' r' : Bool) → (a && b && q && n && d && y && o && r && t) ≡ true → q' ≡ true → y' ≡ true → o' ≡ true → r' ≡ true → (a && b && q' && n && d && y' && o' && r' && t) ≡ true
stock_changed a b q n d y o r t q' y' o' r' h hq hy ho hr = grind arith

stock_quantity : (s : StockRow) → is_stock_row s ≡ true → is_within 10 100 s.quantity ≡ true
unfolding is_stock_row
stock_quantity s h = grind arith

kept_columns : (home : ℕ) (ls : List Line) (s : StockRow) → is_stock_row s ≡ true → is_within 10 100 (fold (stock_after_line home) s ls).quantity ≡ true → is_within 0 greatest_stock_ytd (fold (stock_after_line home) s ls).ytd ≡ true → is_count (fold (stock_after_line home) s ls).order_count ≡ true → is_count (fold (stock_after_line home) s ls).remote_count ≡ true → is_stock_row (fold (stock_after_line home) s ls) ≡ true
unfolding is_stock_row
kept_columns home ls s h hq hy ho hr =
    let t = fold (stock_after_line home) s ls in
    (λ i. is_item_id (column_stays (λ s. s.item) (λ home s l. refl) home ls s i) && is_warehouse_id (column_stays (λ s. s.warehouse) (λ home s l. refl) home ls s i) && is_within 10 100 t.quantity && (length (column_stays (λ s. s.district_information) (λ home s l. refl) home ls s i) == 10) && list_all (is_exact_text 24) (column_stays (λ s. s.district_information) (λ home s l. refl) home ls s i) && is_within 0 greatest_stock_ytd t.ytd && is_count t.order_count && is_count t.remote_count && is_text 50 (column_stays (λ s. s.information) (λ home s l. refl) home ls s i))
    ∙ stock_changed (is_item_id s.item) (is_warehouse_id s.warehouse) (is_within 10 100 s.quantity) (length s.district_information == 10) (list_all (is_exact_text 24) s.district_information) (is_within 0 greatest_stock_ytd s.ytd) (is_count s.order_count) (is_count s.remote_count) (is_text 50 s.information) (is_within 10 100 t.quantity) (is_within 0 greatest_stock_ytd t.ytd) (is_count t.order_count) (is_count t.remote_count) h hq hy ho hr

-- a STOCK row after lines, where its counts and its total are in range
stock_row_after : (home : ℕ) (lines : List Line) (s : StockRow) → is_stock_row s ≡ true → list_all (λ l. is_within 1 10 l.quantity) lines ≡ true → is_within 0 greatest_stock_ytd (stock_after home lines s).ytd ≡ true → is_count (stock_after home lines s).order_count ≡ true → is_count (stock_after home lines s).remote_count ≡ true → is_stock_row (stock_after home lines s) ≡ true
stock_row_after home lines s h all hy ho hr = kept_columns home (lines_from s lines) s h (quantities_stay home (lines_from s lines) s (stock_quantity s h) (all-filter (λ l. is_within 1 10 l.quantity) (λ l. (l.supply == s.warehouse) && (l.item == s.item)) lines all)) hy ho hr

-- ---- each STOCK row is the one that its key names

its_own : (s : StockRow) → is_stock s.warehouse s.item s ≡ true
its_own s = grind (arith, nat_tests)

differs : (x s : StockRow) → key_before (stock_key x) (stock_key s) ≡ true → is_stock s.warehouse s.item x ≡ false
differs x s h = grind (arith, nat_tests)

abbrev IsFoundIn : List StockRow → StockRow → Type 0
IsFoundIn xs s = find (is_stock s.warehouse s.item) xs ≡ Some s

found_later : (x s : StockRow) (xs : List StockRow) → IsFoundIn xs s → key_before (stock_key x) (stock_key s) ≡ true → IsFoundIn (x ∷ xs) s
found_later x s xs h e = let d = differs x s e in grind arith

found_here : (x : StockRow) (xs : List StockRow) → IsFoundIn (x ∷ xs) x
found_here x xs = let e = its_own x in grind arith

each_found : (xs : List StockRow) → is_ascending stock_key xs ≡ true → Each (IsFoundIn xs) xs
each_found [] keyed = tt
each_found (x ∷ xs) keyed =
    let s = split (list_all (λ later. key_before (stock_key x) (stock_key later)) xs) (is_ascending stock_key xs) keyed in
    (found_here x xs, each-with (IsFoundIn xs) (IsFoundIn (x ∷ xs)) (λ later. key_before (stock_key x) (stock_key later)) (λ c h e. found_later x c xs h e) xs (each_found xs s.1) s.0)

-- ---- the amount of a line

pub amount_fits : (q : ℕ) (price : ℤ) → is_within 1 10 q ≡ true → is_amount_within (pos 1) GREATEST_PRICE price ≡ true → is_amount_within (pos 0) GREATEST_LINE_AMOUNT (line_amount price q) ≡ true
amount_fits q (pos k) hq hp =
    let a = within 1 10 q hq in
    let b = amount_within (pos 1) GREATEST_PRICE (pos k) hp in
    let small : k ≤ 99999 = omega (arith, ints) in
    let product : q * k ≤ 999990 = mul-le q k 10 99999 a.1 small in
    is_amount (pos 0) GREATEST_LINE_AMOUNT (line_amount (pos k) q) (omega (arith, ints)) (omega (arith, ints))
amount_fits q (negsuc k) hq hp = let b = amount_within (pos 1) GREATEST_PRICE (negsuc k) hp in absurd (omega (arith, ints))

-- ---- all STOCK rows

abbrev is_line_of_stock : StockRow → Line → Bool
is_line_of_stock s l = (l.supply == s.warehouse) && (l.item == s.item)

none_filtered : {X : Type 0} (q : X → Bool) (xs : List X) → list_any q xs ≡ false → filter q xs ≡ []
none_filtered q [] e = refl
none_filtered q (x ∷ xs) e = grind (arith, none_filtered q xs)

-- what a test says of some line that the row supplies
by_some_line : (s : StockRow) (test : Line → Bool) (c : Bool) → ((l : Line) → is_line_of_stock s l ≡ true → test l ≡ c) → (ls : List Line) → list_any (is_line_of_stock s) ls ≡ true → list_all test ls ≡ true → c ≡ true
by_some_line s test c same [] any all = cc
by_some_line s test c same (l ∷ ls) any all = grind (arith, same l, by_some_line s test c same ls)

supplied_by : (stocks : List StockRow) (s : StockRow) (l : Line) → IsFoundIn stocks s → is_line_of_stock s l ≡ true → unwrap_or (find (is_stock l.supply l.item) stocks) no_stock ≡ s
supplied_by stocks s l found h =
    let ew : l.supply ≡ s.warehouse = grind (arith, nat_tests) in
    let ei : l.item ≡ s.item = grind (arith, nat_tests) in
    (λ i. unwrap_or (find (is_stock (ew i) (ei i)) stocks) no_stock) ∙ ap (λ (f : Option StockRow). unwrap_or f no_stock) found

abbrev pub fits_after : ℕ → List Line → StockRow → Bool
fits_after home lines s = is_within 0 greatest_stock_ytd (stock_after home lines s).ytd && is_count (stock_after home lines s).order_count && is_count (stock_after home lines s).remote_count

stock_in_range : (home : ℕ) (lines : List Line) (stocks : List StockRow) (s : StockRow) (b : Bool) → list_any (is_line_of_stock s) lines ≡ b → list_all (λ l. is_within 1 10 l.quantity) lines ≡ true → list_all (λ l. fits_after home lines (unwrap_or (find (is_stock l.supply l.item) stocks) no_stock)) lines ≡ true → IsFoundIn stocks s → is_stock_row s ≡ true → is_stock_row (stock_after home lines s) ≡ true
stock_in_range home lines stocks s true any all fits found h =
    let f = by_some_line s (λ l. fits_after home lines (unwrap_or (find (is_stock l.supply l.item) stocks) no_stock)) (fits_after home lines s) (λ l k. ap (fits_after home lines) (supplied_by stocks s l found k)) lines any fits in
    let t = split (is_within 0 greatest_stock_ytd (stock_after home lines s).ytd && is_count (stock_after home lines s).order_count) (is_count (stock_after home lines s).remote_count) f in
    let u = split (is_within 0 greatest_stock_ytd (stock_after home lines s).ytd) (is_count (stock_after home lines s).order_count) t.0 in
    stock_row_after home lines s h all u.0 u.1 t.1
stock_in_range home lines stocks s false any all fits found h = (λ i. is_stock_row (fold (stock_after_line home) s (none_filtered (is_line_of_stock s) lines any i))) ∙ h

all_mapped : (home : ℕ) (lines : List Line) (xs : List StockRow) → Each (λ s. is_stock_row (stock_after home lines s) ≡ true) xs → list_all is_stock_row (map (stock_after home lines) xs) ≡ true
all_mapped home lines [] all = refl
all_mapped home lines (s ∷ xs) all = both_true (is_stock_row (stock_after home lines s)) (list_all is_stock_row (map (stock_after home lines) xs)) all.0 (all_mapped home lines xs all.1)

pub stocks_in_range : (home : ℕ) (lines : List Line) (stocks : List StockRow) → is_ascending stock_key stocks ≡ true → list_all is_stock_row stocks ≡ true → list_all (λ l. is_within 1 10 l.quantity) lines ≡ true → list_all (λ l. fits_after home lines (unwrap_or (find (is_stock l.supply l.item) stocks) no_stock)) lines ≡ true → list_all is_stock_row (map (stock_after home lines) stocks) ≡ true
stocks_in_range home lines stocks keyed h all fits =
    all_mapped home lines stocks (each-with (IsFoundIn stocks) (λ s. is_stock_row (stock_after home lines s) ≡ true) is_stock_row (λ s found k. stock_in_range home lines stocks s (list_any (is_line_of_stock s) lines) refl all fits found k) stocks (each_found stocks keyed) h)

-- ---- the order's lines

pub line_tests : (test : Line → Bool) (made : ℕ → Line → OrderLineRow) (new : OrderLineRow → Bool) → ((n : ℕ) (l : Line) → 1 ≤ n → n ≤ 15 → test l ≡ true → new (made n l) ≡ true) → (n : ℕ) (ls : List Line) → 1 ≤ n → n + length ls ≤ 16 → list_all test ls ≡ true → list_all new (map (λ line. made line.0 line.1) (enumerate_from n ls)) ≡ true
line_tests test made new each n [] low high h = refl
line_tests test made new each n (l ∷ ls) low high h =
    let s = split (test l) (list_all test ls) h in
    both_true (new (made n l)) _ (each n l low (omega arith) s.0) (line_tests test made new each (n + 1) ls (omega arith) (omega arith) s.1)

later : (x : List ℕ) (xs : List (List ℕ)) (i : ℕ) → is_exact_text 24 (unwrap_or (slice_get xs i) []) ≡ true → is_exact_text 24 (unwrap_or (slice_get (x ∷ xs) (suc i)) []) ≡ true
later x xs i h = let e : slice_get (x ∷ xs) (suc i) ≡ slice_get xs i = grind arith in ap (λ (f : Option (List ℕ)). is_exact_text 24 (unwrap_or f [])) e ∙ h

pub text_at : (xs : List (List ℕ)) (i : ℕ) → i < length xs → list_all (is_exact_text 24) xs ≡ true → is_exact_text 24 (unwrap_or (slice_get xs i) []) ≡ true
text_at [] i lt h = absurd (omega arith)
text_at (x ∷ xs) zero lt h = (split (is_exact_text 24 x) (list_all (is_exact_text 24) xs) h).0
text_at (x ∷ xs) (suc i) lt h = later x xs i (text_at xs i (omega arith) (split (is_exact_text 24 x) (list_all (is_exact_text 24) xs) h).1)
