-- The amounts of an order's lines, of those that are delivered or of those that are not.
use Rattle.std.proofs.Common.{◌≡◌, ℕ, ◌*◌, ◌<◌, ◌≤◌, Bool, true, false, List, [], ◌∷◌, length, get_or, refl, ap, ◌∙◌, arith}
use Rattle.std.specs.Prelude.{ℤ, pos, filter, if◌then◌else◌, is_some}
use Rattle.std.specs.List.{list_all}
use Rattle.std.specs.Bool.{beq}
use Rattle.std.proofs.lemmas.Int.{ints}
use Rattle.tpcc_money.specs.Amounts.{total}
use Rattle.tpcc_rows.specs.declared.tables.rows.OrderLineRow.{OrderLineRow}
use Rattle.tpcc_rows.specs.Ranges.{is_order_line_row}
use Rattle.tpcc_rows.specs.Tables.{Rows, is_line_of, lines_of}
use Rattle.tpcc_rows.specs.WellKeyed.{IsWellKeyed}
use Rattle.tpcc_laws.proofs.Numbers.{is_amount}
use Rattle.tpcc_storage.proofs.Halves.{all_at}
use Rattle.tpcc_tables.specs.Internal.Sums.{is_order_amount}
use Rattle.tpcc_tables.proofs.Line.{few_lines}
use Rattle.tpcc_tables.proofs.SumRanges.{IsUpTo, line_amount, all-filter}

-- of a line that is delivered or not, as is asked, else nothing
abbrev pub amount_of : Bool → OrderLineRow → ℤ
amount_of delivered l = if beq (is_some l.delivered) delivered then l.amount else pos 0

chosen_up_to : (b : Bool) (a : ℤ) → IsUpTo 999999 a → IsUpTo 999999 (if b then a else pos 0)
chosen_up_to true a h = h
chosen_up_to false a h = (omega (arith, ints), omega (arith, ints))

pub amount_up_to : (delivered : Bool) (l : OrderLineRow) → is_order_line_row l ≡ true → IsUpTo 999999 (amount_of delivered l)
amount_up_to delivered l h = chosen_up_to (beq (is_some l.delivered) delivered) l.amount (line_amount l h)

pub amount_at : (delivered : Bool) (ls : List OrderLineRow) (i : ℕ) (l : OrderLineRow) → list_all is_order_line_row ls ≡ true → i < length ls → l ≡ get_or ls i l → IsUpTo 999999 (amount_of delivered l)
amount_at delivered ls i l h lt is = amount_up_to delivered l (ap is_order_line_row is ∙ all_at is_order_line_row ls i l h lt)

pub amounts_chosen : (delivered : Bool) (ls : List OrderLineRow) → total (amount_of delivered) ls ≡ total (λ l. l.amount) (filter (λ l. beq (is_some l.delivered) delivered) ls)
amounts_chosen delivered [] = refl
amounts_chosen delivered (l ∷ ls) = grind (arith, ints, amounts_chosen delivered ls)

-- ---- the lines of an order

pub few_of : (rows : Rows) (w d o : ℕ) (lines : List OrderLineRow) → IsWellKeyed rows → lines ≡ lines_of rows w d o → length lines ≤ 15
few_of rows w d o lines well are = omega (arith, ap length are, few_lines rows w d o well)

pub range_of : (rows : Rows) (w d o : ℕ) (lines : List OrderLineRow) → IsWellKeyed rows → lines ≡ lines_of rows w d o → list_all is_order_line_row lines ≡ true
range_of rows w d o lines well are = ap (list_all is_order_line_row) are ∙ all-filter is_order_line_row (is_line_of w d o) rows.order_lines well.ranges.order_lines

-- one line's amount is at most an order's
pub line_in_order : (delivered : Bool) (l : OrderLineRow) (a : ℤ) → is_order_line_row l ≡ true → a ≡ amount_of delivered l → is_order_amount a ≡ true
line_in_order delivered l a h is = let up = amount_up_to delivered l h in is_amount (pos 0) (pos (15 * 999999)) a (omega (arith, ints, up, is)) (omega (arith, ints, up, is))
