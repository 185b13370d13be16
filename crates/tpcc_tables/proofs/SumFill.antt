-- The sums of rows that stand ready, counted row by row.
use Rattle.std.proofs.Common.{◌≡◌, ℕ, ◌+◌, ◌<◌, ◌≤◌, Bool, true, false, List, [], ◌∷◌, ◌++◌, length, take, drop, get_or, refl, sym, ap, ◌∙◌, subst, arith, length-take, length-drop}
use Rattle.std.specs.Prelude.{ℤ, filter, is_some}
use Rattle.std.specs.Bool.{beq}
use Rattle.std.proofs.lemmas.List.{take_more, get_or-take, get_or-drop}
use Rattle.tpcc_money.specs.Amounts.{total}
use Rattle.tpcc_rows.specs.declared.tables.rows.HistoryRow.{HistoryRow}
use Rattle.tpcc_rows.specs.declared.tables.rows.OrderRow.{OrderRow}
use Rattle.tpcc_rows.specs.declared.tables.rows.OrderLineRow.{OrderLineRow}
use Rattle.tpcc_rows.specs.Lists.{inserted}
use Rattle.tpcc_rows.specs.Ranges.{is_order_row}
use Rattle.tpcc_rows.specs.Tables.{Rows, is_line_of, lines_of}
use Rattle.tpcc_rows.specs.WellKeyed.{IsWellKeyed}
use Rattle.tpcc_rows.specs.Conditions.{delivered_amount}
use Rattle.tpcc_storage.proofs.Halves.{all_at}
use Rattle.tpcc_tables.specs.declared.lists.Lists.{Lists}
use Rattle.tpcc_tables.specs.declared.sums.Sums.{Sums}
use Rattle.tpcc_tables.specs.DistrictVecs.{listed}
use Rattle.tpcc_tables.specs.Internal.Sums.{AreSums, first_rows, HasPaid, HasEntered, CanGrow}
use Rattle.tpcc_tables.proofs.Filter.{filter-same, filter-twice}
use Rattle.tpcc_tables.proofs.SumChanges.{paid, entered}
use Rattle.tpcc_tables.proofs.SumRanges.{summable, summable_first, can_grow, order_lines_most}

-- the sums of the first rows can take more
pub can_grow_first : (lists : Lists) (payments orders : ℕ) (s : Sums) → IsWellKeyed (listed lists) → AreSums (first_rows (listed lists) payments orders) s → CanGrow s
can_grow_first lists payments orders s well are =
    let whole = summable (listed lists) well (omega (arith, lists.histories.ok, lists.histories.small)) in
    can_grow (first_rows (listed lists) payments orders) s (summable_first (listed lists) payments orders whole) are

-- the first rows and the next one
next_row : {X : Type 0} (xs : List X) (i : ℕ) (x : X) → i < length xs → x ≡ get_or xs i x → take (i + 1) xs ≡ take i xs ++ x ∷ []
next_row xs i x lt is = take_more xs i x lt ∙ ap (λ y. take i xs ++ y ∷ []) (sym is)

pub next_paid : (rows : Rows) (i : ℕ) (h : HistoryRow) (old new : Sums) → i < length rows.histories → h ≡ get_or rows.histories i h → AreSums (first_rows rows i 0) old → HasPaid h old new → AreSums (first_rows rows (i + 1) 0) new
next_paid rows i h old new lt at are is =
    subst (λ (hs : List HistoryRow). AreSums (record rows { histories = hs; orders = [] }) new) (sym (next_row rows.histories i h lt at)) (paid (first_rows rows i 0) h old new are is)

-- ---- orders

inserted_last : {X : Type 0} (x : X) (xs : List X) → inserted (λ _ _. false) x xs ≡ xs ++ x ∷ []
inserted_last x [] = refl
inserted_last x (y ∷ xs) = ap (λ ys. y ∷ ys) (inserted_last x xs)

beq_true : (b : Bool) → beq b true ≡ b
beq_true true = refl
beq_true false = refl

-- what is delivered of an order
pub delivered_is : (rows : Rows) (o : OrderRow) (lines : List OrderLineRow) (a : ℤ) → lines ≡ lines_of rows o.warehouse o.district o.id → a ≡ total (λ l. l.amount) (filter (λ l. beq (is_some l.delivered) true) lines) → delivered_amount rows o ≡ a
delivered_is rows o lines a are is =
    let mine = is_line_of o.warehouse o.district o.id in
    ap (total (λ l. l.amount)) (sym (filter-twice (λ l. is_some l.delivered) mine rows.order_lines) ∙ sym (filter-same (λ l. beq (is_some l.delivered) true) (λ l. is_some l.delivered) (λ l. beq_true (is_some l.delivered)) (filter mine rows.order_lines)))
    ∙ ap (λ ls. total (λ l. l.amount) (filter (λ l. beq (is_some l.delivered) true) ls)) (sym are)
    ∙ sym is

-- the order at a place of a run
module _ (orders run : List OrderRow) (start : ℕ) (is_run : run ≡ take (length run) (drop start orders)) (i : ℕ) (o : OrderRow) (lt : i < length run) (at : o ≡ get_or run i o) where
  within : start + i < length orders
  within = omega (arith, ap length is_run, length-take (length run) (drop start orders), length-drop start orders)

  order_at : o ≡ get_or orders (start + i) o
  order_at = at ∙ ap (λ xs. get_or xs i o) is_run ∙ get_or-take (length run) (drop start orders) i o lt ∙ get_or-drop start orders i o

pub lines_most : (rows : Rows) (run : List OrderRow) (start i : ℕ) (o : OrderRow) → IsWellKeyed rows → run ≡ take (length run) (drop start rows.orders) → i < length run → o ≡ get_or run i o → o.line_count ≤ 15
lines_most rows run start i o well is_run lt at =
    order_lines_most o (ap is_order_row (order_at rows.orders run start is_run i o lt at) ∙ all_at is_order_row rows.orders (start + i) o well.ranges.orders (within rows.orders run start is_run i o lt at))

pub next_entered : (rows : Rows) (run : List OrderRow) (payments start i : ℕ) (o : OrderRow) (a : ℤ) (old new : Sums) → run ≡ take (length run) (drop start rows.orders) → i < length run → o ≡ get_or run i o → delivered_amount rows o ≡ a → AreSums (first_rows rows payments (start + i)) old → HasEntered o a old new → AreSums (first_rows rows payments (start + (i + 1))) new
next_entered rows run payments start i o a old new is_run lt at delivered are is =
    let first = first_rows rows payments (start + i) in
    let later : start + (i + 1) ≡ start + i + 1 = omega arith in
    let next = ap (λ n. take n rows.orders) later ∙ next_row rows.orders (start + i) o (within rows.orders run start is_run i o lt at) (order_at rows.orders run start is_run i o lt at) in
    subst (λ (os : List OrderRow). AreSums (record first { orders = os }) new) (inserted_last o (take (start + i) rows.orders) ∙ sym next)
    (entered (λ _ _. false) first o a delivered old new are is)
