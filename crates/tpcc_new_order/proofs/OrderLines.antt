-- The lines of an order, one after another.
use Rattle.std.proofs.Common.{◌≡◌, ℕ, ◌+◌, ◌<◌, Bool, true, false, List, [], ◌∷◌, ◌++◌, length, map, get_or, take, refl, sym, ap, ◌∙◌, arith}
use Rattle.std.specs.Prelude.{◌&&◌, ◌||◌, is_some, not, nat_lt, unwrap_or, ℤ, pos, ◌+ℤ◌, ◌≤ℤ◌}
use Rattle.std.specs.List.{list_all, list_any, enumerate_from}
use Rattle.std.proofs.lemmas.Int.{ints}
use Rattle.std.proofs.lemmas.List.{take_more, length-take-le}
use Rattle.tpcc_money.specs.Amounts.{line_amount, total}
use Rattle.tpcc_rows.specs.declared.tables.rows.ItemRow.{ItemRow}
use Rattle.tpcc_rows.specs.declared.tables.rows.StockRow.{StockRow}
use Rattle.tpcc_rows.specs.declared.transactions.requests.Line.{Line}
use Rattle.tpcc_rows.specs.Ranges.{is_within, is_item_row, is_stock_row, is_count, greatest_stock_ytd, is_amount_within}
use Rattle.tpcc_rows.specs.Tables.{Rows, is_item, is_stock, find_item, find_stock, item_at, stock_at, no_item, no_stock}
use Rattle.tpcc_rows.specs.WellKeyed.{IsInRange}
use Rattle.tpcc_laws.proofs.List.{list_all-mono}
use Rattle.tpcc_laws.proofs.Remove.{found_passes}
use Rattle.tpcc_rows.proofs.Booleans.{split}
use Rattle.tpcc_laws.proofs.OrderRanges.{amount_fits}
use Rattle.tpcc_laws.proofs.DeliveryKeeps.{some_of}
use Rattle.tpcc_laws.proofs.Numbers.{amount_within}
use Rattle.tpcc_new_order.specs.Internal.Supplied.{numbers_of, is_servable_line}
use Rattle.tpcc_new_order.specs.Internal.Tests.{overruns_of, overruns_with}
use Rattle.tpcc_rows.specs.declared.limits.TheConstants.{GREATEST_LINE_AMOUNT}
use Rattle.tpcc_money.specs.declared.amounts.TheConstants.{GREATEST_PRICE}

-- ---- what is known of a line

pub servable_tells : (rows : Rows) (l : Line) → is_servable_line rows l ≡ true → (is_within 1 10 l.quantity ≡ true) × (is_some (find_item rows l.item) ≡ true) × (is_some (find_stock rows l.supply l.item) ≡ true)
servable_tells rows l h =
    let a = split (is_within 1 10 l.quantity && is_some (find_item rows l.item)) (is_some (find_stock rows l.supply l.item)) h in
    let b = split (is_within 1 10 l.quantity) (is_some (find_item rows l.item)) a.0 in
    (b.0, b.1, a.1)

pub quantities : (rows : Rows) (ls : List Line) → list_all (is_servable_line rows) ls ≡ true → list_all (λ l. is_within 1 10 l.quantity) ls ≡ true
quantities rows ls h = list_all-mono (is_servable_line rows) (λ l. is_within 1 10 l.quantity) (λ l k. (servable_tells rows l k).0) ls h

pub item_in_range : (rows : Rows) (l : Line) → IsInRange rows → is_servable_line rows l ≡ true → is_item_row (item_at rows l.item) ≡ true
item_in_range rows l h k =
    let x = some_of (find_item rows l.item) (servable_tells rows l k).1 in
    (λ i. is_item_row (unwrap_or (x.1 i) no_item)) ∙ (found_passes (is_item l.item) is_item_row rows.items x.0 x.1 h.items).1

pub stock_in_range : (rows : Rows) (l : Line) → IsInRange rows → is_servable_line rows l ≡ true → is_stock_row (stock_at rows l.supply l.item) ≡ true
stock_in_range rows l h k =
    let x = some_of (find_stock rows l.supply l.item) (servable_tells rows l k).2 in
    (λ i. is_stock_row (unwrap_or (x.1 i) no_stock)) ∙ (found_passes (is_stock l.supply l.item) is_stock_row rows.stocks x.0 x.1 h.stocks).1

-- ---- one line more

-- what stands past the end of the lines
abbrev pub no_line : Line
no_line = record { item = 0; supply = 0; quantity = 0 }

or_same : (a : Bool) → (a || false) ≡ a
or_same true = refl
or_same false = refl

or_later : (a b c : Bool) → (a || (b || c)) ≡ ((a || b) || c)
or_later true b c = refl
or_later false b c = refl

any-map-push : {X Y : Type 0} (p : Y → Bool) (f : X → Y) (xs : List X) (x : X) → list_any p (map f (xs ++ x ∷ [])) ≡ (list_any p (map f xs) || p (f x))
any-map-push p f [] x = or_same (p (f x))
any-map-push p f (y ∷ xs) x = (λ i. p (f y) || any-map-push p f xs x i) ∙ or_later (p (f y)) (list_any p (map f xs)) (p (f x))

-- the columns that leave their ranges in the rows of the lines up to a place, and of one line more
pub overruns_more : (f : Line → StockRow) (ls : List Line) (i : ℕ) → i < length ls → overruns_with (overruns_of (map f (take i ls))) (numbers_of (f (get_or ls i no_line))) ≡ overruns_of (map f (take (i + 1) ls))
overruns_more f ls i lt =
    let l = get_or ls i no_line in
    sym
    (ap (λ ys. overruns_of (map f ys)) (take_more ls i no_line lt)
    ∙ (λ j. record {
      orders = any-map-push (λ s. not (is_count s.order_count)) f (take i ls) l j;
      remotes = any-map-push (λ s. not (is_count s.remote_count)) f (take i ls) l j;
      ytd = any-map-push (λ s. nat_lt greatest_stock_ytd s.ytd) f (take i ls) l j;
    }))

-- ---- amounts

pub price_in_range : (i : ItemRow) → is_item_row i ≡ true → is_amount_within (pos 1) GREATEST_PRICE i.price ≡ true
unfolding is_item_row
price_in_range i h = grind arith

pub price_tells : (i : ItemRow) → is_item_row i ≡ true → (pos 1 ≤ℤ i.price) × (i.price ≤ℤ GREATEST_PRICE)
price_tells i h = amount_within (pos 1) GREATEST_PRICE i.price (price_in_range i h)

pub amount_tells : (i : ItemRow) (q : ℕ) → is_item_row i ≡ true → is_within 1 10 q ≡ true → (pos 0 ≤ℤ line_amount i.price q) × (line_amount i.price q ≤ℤ GREATEST_LINE_AMOUNT)
amount_tells i q h k = amount_within (pos 0) GREATEST_LINE_AMOUNT (line_amount i.price q) (amount_fits q i.price k (price_in_range i h))

none_added : (a : ℤ) → a +ℤ pos 0 ≡ pos 0 +ℤ a
none_added a = omega (arith, ints)

added_later : (a b c : ℤ) → a +ℤ (b +ℤ c) ≡ a +ℤ b +ℤ c
added_later a b c = omega (arith, ints)

total-push : {X : Type 0} (column : X → ℤ) (xs : List X) (x : X) → total column (xs ++ x ∷ []) ≡ total column xs +ℤ column x
total-push column [] x = none_added (column x)
total-push column (y ∷ xs) x = (λ i. column y +ℤ total-push column xs x i) ∙ added_later (column y) (total column xs) (column x)

-- the sum up to a place, and of one line more
pub total_more : (column : Line → ℤ) (ls : List Line) (i : ℕ) → i < length ls → total column (take (i + 1) ls) ≡ total column (take i ls) +ℤ column (get_or ls i no_line)
total_more column ls i lt = ap (total column) (take_more ls i no_line lt) ∙ total-push column (take i ls) (get_or ls i no_line)

-- ---- rows made of the numbered lines

numbered-push : {Y : Type 0} (made : ℕ × Line → Y) (n : ℕ) (ls : List Line) (l : Line) → map made (enumerate_from n (ls ++ l ∷ [])) ≡ map made (enumerate_from n ls) ++ made (n + length ls, l) ∷ []
numbered-push made n [] l = let e : n ≡ n + 0 = omega arith in λ i. made (e i, l) ∷ []
numbered-push made n (k ∷ ls) l =
    let e : n + 1 + length ls ≡ n + length (k ∷ ls) = omega arith in
    (λ i. made (n, k) ∷ numbered-push made (n + 1) ls l i) ∙ (λ i. made (n, k) ∷ (map made (enumerate_from (n + 1) ls) ++ made (e i, l) ∷ []))

-- the rows of the lines up to a place, and of one line more
pub numbered_more : {Y : Type 0} (made : ℕ × Line → Y) (ls : List Line) (i : ℕ) → i < length ls → map made (enumerate_from 1 (take (i + 1) ls)) ≡ map made (enumerate_from 1 (take i ls)) ++ made (i + 1, get_or ls i no_line) ∷ []
numbered_more made ls i lt =
    let l = get_or ls i no_line in
    let e : 1 + length (take i ls) ≡ i + 1 = omega (arith, length-take-le i ls (omega arith)) in
    ap (λ ys. map made (enumerate_from 1 ys)) (take_more ls i no_line lt) ∙ numbered-push made 1 (take i ls) l ∙ (λ j. map made (enumerate_from 1 (take i ls)) ++ made (e j, l) ∷ [])
