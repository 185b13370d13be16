-- The lines of an order number by number, the lines of a district order by order, and how many they are.
use Rattle.std.proofs.Common.{◌≡◌, ℕ, zero, suc, ◌+◌, ◌-◌, ◌*◌, ◌≤◌, Bool, true, false, List, ◌++◌, [], refl, sym, ap, ◌∙◌, arith, length, Option, Some, None}
use Rattle.std.specs.Prelude.{filter, ◌&&◌, ◌==◌, nat_lt, nat_le, pos}
use Rattle.std.specs.Option.{option_to_list}
use Rattle.std.proofs.lemmas.Bool.Decides.{nat_tests}
use Rattle.std.proofs.lemmas.List.{length-append}
use Rattle.tpcc_rows.specs.declared.tables.rows.OrderLineRow.{OrderLineRow}
use Rattle.tpcc_rows.specs.Lists.{key_before}
use Rattle.tpcc_rows.specs.Ranges.{is_order_line_row, is_order_id, is_district_id, is_warehouse_id, is_item_id, is_within, is_null_or, is_moment, is_amount_within, is_exact_text}
use Rattle.tpcc_rows.specs.Tables.{Rows, is_line_of, lines_of, order_lines_in, order_line_key}
use Rattle.tpcc_rows.specs.WellKeyed.{IsWellKeyed}
use Rattle.tpcc_laws.proofs.Numbers.{within}
use Rattle.tpcc_rows.proofs.Booleans.{split}
use Rattle.tpcc_storage.specs.Runs.{is_line_between}
use Rattle.tpcc_tables.specs.Loads.{is_order_line, find_order_line}
use Rattle.tpcc_tables.proofs.Filter.{below, exactly, filter-next, filter-key, filter-agree, filter-same, filter-nothing, filter-twice}
use Rattle.tpcc_rows.specs.declared.limits.TheConstants.{GREATEST_LINE_AMOUNT}

-- the lines of an order with numbers below n
abbrev pub lines_below : Rows → ℕ → ℕ → ℕ → ℕ → List OrderLineRow
lines_below rows w d o n = filter (below (is_line_of w d o) (λ l. l.number) n) rows.order_lines

front : (a b : Bool) → (a && b) ≡ true → a ≡ true
front a b h = (split a b h).0

-- the tests of the key of a line stand before those of its six other columns
tests_of_key : (k a b c d e f : Bool) → (k && a && b && c && d && e && f) ≡ true → k ≡ true
tests_of_key k a b c d e f h =
    front k a (front (k && a) b (front (k && a && b) c (front (k && a && b && c) d (front (k && a && b && c && d) e (front (k && a && b && c && d && e) f h)))))

number_within : (l : OrderLineRow) → is_order_line_row l ≡ true → (1 ≤ l.number) × (l.number ≤ 15)
unfolding is_order_line_row
number_within l h =
    within 1 15 l.number
    (split (is_order_id l.order && is_district_id l.district && is_warehouse_id l.warehouse) (is_within 1 15 l.number)
    (tests_of_key (is_order_id l.order && is_district_id l.district && is_warehouse_id l.warehouse && is_within 1 15 l.number) (is_item_id l.item) (is_warehouse_id l.supply) (is_null_or is_moment l.delivered) (is_within 1 10 l.quantity) (is_amount_within (pos 0) GREATEST_LINE_AMOUNT l.amount) (is_exact_text 24 l.district_information) h)).1

numbers_rise : (w d o : ℕ) (a b : OrderLineRow) → is_line_of w d o a ≡ true → is_line_of w d o b ≡ true → key_before (order_line_key a) (order_line_key b) ≡ true → nat_le a.number b.number ≡ true
numbers_rise w d o a b ha hb h = grind (arith, nat_tests)

lines_apart : (w d o n : ℕ) (a b : OrderLineRow) → is_order_line w d o n a ≡ true → is_order_line w d o n b ≡ true → key_before (order_line_key a) (order_line_key b) ≡ false
lines_apart w d o n a b ha hb = grind (arith, nat_tests)

pub no_lines : (rows : Rows) (w d o : ℕ) → IsWellKeyed rows → lines_below rows w d o 1 ≡ []
no_lines rows w d o well =
    filter-agree is_order_line_row (below (is_line_of w d o) (λ l. l.number) 1) (λ _. false) (λ l h. let k = number_within l h in grind (arith, nat_tests)) rows.order_lines well.ranges.order_lines
    ∙ filter-nothing (λ _. false) (λ _. refl) rows.order_lines

pub all_lines : (rows : Rows) (w d o : ℕ) → IsWellKeyed rows → lines_below rows w d o 16 ≡ lines_of rows w d o
all_lines rows w d o well =
    filter-agree is_order_line_row (below (is_line_of w d o) (λ l. l.number) 16) (is_line_of w d o) (λ l h. let k = number_within l h in grind (arith, nat_tests)) rows.order_lines well.ranges.order_lines

pub next_line : (rows : Rows) (w d o n : ℕ) → IsWellKeyed rows → lines_below rows w d o (n + 1) ≡ lines_below rows w d o n ++ option_to_list (find_order_line rows w d o n)
next_line rows w d o n well =
    filter-next order_line_key (is_line_of w d o) (λ l. l.number) (numbers_rise w d o) n rows.order_lines well.keyed.order_lines
    ∙ ap (λ ls. lines_below rows w d o n ++ ls) (filter-key order_line_key (is_order_line w d o n) (lines_apart w d o n) rows.order_lines well.keyed.order_lines)

-- the lines of a district whose orders are numbered from low on, and below n
abbrev pub lines_between : Rows → ℕ → ℕ → ℕ → ℕ → List OrderLineRow
lines_between rows w d low n = filter (λ l. nat_le low l.order && nat_lt l.order n) (order_lines_in rows w d)

-- the same as one test
abbrev from_low : ℕ → ℕ → ℕ → OrderLineRow → Bool
from_low w d low l = (l.warehouse == w) && (l.district == d) && nat_le low l.order

one_test : (w d low n : ℕ) (l : OrderLineRow) → ((l.warehouse == w) && (l.district == d)) && (nat_le low l.order && nat_lt l.order n) ≡ below (from_low w d low) (λ x. x.order) n l
one_test w d low n l = grind arith

as_one_test : (rows : Rows) (w d low n : ℕ) → lines_between rows w d low n ≡ filter (below (from_low w d low) (λ l. l.order) n) rows.order_lines
as_one_test rows w d low n =
    filter-twice (λ l. nat_le low l.order && nat_lt l.order n) (λ l. (l.warehouse == w) && (l.district == d)) rows.order_lines
    ∙ filter-same (λ l. ((l.warehouse == w) && (l.district == d)) && (nat_le low l.order && nat_lt l.order n)) (below (from_low w d low) (λ l. l.order) n) (one_test w d low n) rows.order_lines

orders_rise : (w d low : ℕ) (a b : OrderLineRow) → from_low w d low a ≡ true → from_low w d low b ≡ true → key_before (order_line_key a) (order_line_key b) ≡ true → nat_le a.order b.order ≡ true
orders_rise w d low a b ha hb h = grind (arith, nat_tests)

one_order : (w d low n : ℕ) → low ≤ n → (l : OrderLineRow) → exactly (from_low w d low) (λ x. x.order) n l ≡ is_line_of w d n l
one_order w d low n h l = grind (arith, nat_tests)

pub no_orders : (rows : Rows) (w d low : ℕ) → lines_between rows w d low low ≡ []
no_orders rows w d low = filter-nothing (λ l. nat_le low l.order && nat_lt l.order low) (λ l. grind (arith, nat_tests)) (order_lines_in rows w d)

pub next_order : (rows : Rows) (w d low n : ℕ) → IsWellKeyed rows → low ≤ n → lines_between rows w d low (n + 1) ≡ lines_between rows w d low n ++ lines_of rows w d n
next_order rows w d low n well h =
    as_one_test rows w d low (n + 1)
    ∙ filter-next order_line_key (from_low w d low) (λ l. l.order) (orders_rise w d low) n rows.order_lines well.keyed.order_lines
    ∙ (λ i. sym (as_one_test rows w d low n) i ++ filter-same (exactly (from_low w d low) (λ l. l.order) n) (is_line_of w d n) (one_order w d low n h) rows.order_lines i)

-- the run of a district's lines is that choice
pub between_chosen : (rows : Rows) (w d low n : ℕ) → filter (is_line_between w d low n) rows.order_lines ≡ lines_between rows w d low n
between_chosen rows w d low n = sym (filter-twice (λ l. nat_le low l.order && nat_lt l.order n) (λ l. (l.warehouse == w) && (l.district == d)) rows.order_lines)

-- ---- an order has at most 15 lines

one_at_most : (o : Option OrderLineRow) → length (option_to_list o) ≤ 1
one_at_most None = omega arith
one_at_most (Some l) = omega arith

few_below : (rows : Rows) (w d o n : ℕ) → IsWellKeyed rows → length (lines_below rows w d o (n + 1)) ≤ n
few_below rows w d o zero well = omega (arith, ap length (no_lines rows w d o well))
few_below rows w d o (suc n) well =
    let next : suc n + 1 ≡ n + 1 + 1 = omega arith in
    let more = ap (λ m. length (lines_below rows w d o m)) next ∙ ap length (next_line rows w d o (n + 1) well) ∙ length-append (lines_below rows w d o (n + 1)) (option_to_list (find_order_line rows w d o (n + 1))) in
    omega (arith, more, one_at_most (find_order_line rows w d o (n + 1)), few_below rows w d o n well)

pub few_lines : (rows : Rows) (w d o : ℕ) → IsWellKeyed rows → length (lines_of rows w d o) ≤ 15
few_lines rows w d o well = omega (arith, ap length (all_lines rows w d o well), few_below rows w d o 15 well)

few_between : (rows : Rows) (w d low k : ℕ) → IsWellKeyed rows → length (lines_between rows w d low (low + k)) ≤ 15 * k
few_between rows w d low zero well =
    let none : low + zero ≡ low = omega arith in
    omega (arith, ap (λ n. length (lines_between rows w d low n)) none, ap length (no_orders rows w d low))
few_between rows w d low (suc k) well =
    let next : low + suc k ≡ low + k + 1 = omega arith in
    let more = ap (λ n. length (lines_between rows w d low n)) next ∙ ap length (next_order rows w d low (low + k) well (omega arith)) ∙ length-append (lines_between rows w d low (low + k)) (lines_of rows w d (low + k)) in
    omega (arith, more, few_lines rows w d (low + k) well, few_between rows w d low k well)

pub few_recent : (rows : Rows) (w d next : ℕ) → IsWellKeyed rows → length (lines_between rows w d (next - 20) next) ≤ 300
few_recent rows w d next well =
    let whole : next - 20 + (next - (next - 20)) ≡ next = omega arith in
    omega (arith, ap (λ n. length (lines_between rows w d (next - 20) n)) whole, few_between rows w d (next - 20) (next - (next - 20)) well)
