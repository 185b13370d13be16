-- What is prepared of the rows of an order is what the order does and shows.
use Rattle.std.proofs.Common.{◌≡◌, ◌≤◌, ◌+◌, ℕ, Bool, true, false, List, [], ◌∷◌, length, map, refl, sym, ap, ◌∙◌, arith, None, Option}
use Rattle.std.specs.Prelude.{◌&&◌, not, is_some, is_none, unwrap_or}
use Rattle.std.specs.List.{list_all, list_any, enumerate_from}
use Rattle.tpcc_money.specs.Amounts.{order_total, total}
use Rattle.tpcc_rows.specs.declared.transactions.requests.Line.{Line}
use Rattle.tpcc_rows.specs.declared.transactions.requests.Order.{Order}
use Rattle.tpcc_rows.specs.declared.transactions.replies.AcceptedOrder.{AcceptedOrder}
use Rattle.tpcc_rows.specs.Ranges.{is_within, is_district_row, is_moment}
use Rattle.tpcc_rows.specs.Tables.{Rows, is_district, find_item, find_stock, no_warehouse, no_district, no_customer}
use Rattle.tpcc_rows.specs.WellKeyed.{IsInRange, IsStocked}
use Rattle.tpcc_rows.specs.NewOrder.{is_rolled_back, order_refusal, order_refusal_by_input, order_input_tests, accepted_order, rolled_back_order, amount_of, entered_line, order_number, order_row, order_line_row, order_line_rows, accepted_from, rolled_back_from}
use Rattle.tpcc_laws.proofs.List.{list_all_both}
use Rattle.tpcc_laws.proofs.Remove.{found_passes}
use Rattle.tpcc_laws.proofs.PaymentRanges.{district_tells, district_key_is}
use Rattle.tpcc_laws.proofs.TurnKeeps.{all_false, first_none, some_if}
use Rattle.tpcc_laws.proofs.TurnKeys.{lines_stocked}
use Rattle.tpcc_laws.proofs.Numbers.{within, not_false}
use Rattle.tpcc_rows.specs.declared.tables.rows.OrderRow.{OrderRow}
use Rattle.tpcc_rows.specs.declared.tables.rows.OrderLineRow.{OrderLineRow}
use Rattle.tpcc_tables.specs.Writes.{IsOrderOf}
use Rattle.tpcc_new_order.specs.declared.reading.order_rows.OrderRows.{OrderRows}
use Rattle.tpcc_new_order.specs.Internal.Supplied.{IsServable}
use Rattle.tpcc_new_order.specs.Internal.Tests.{IsNamed}

-- ---- what is shown

pub accepted_is : (rows : Rows) (o : Order) (n : OrderRows) → IsNamed rows o n
    → accepted_from o n.warehouse.now n.district.now n.customer.now (order_total (total (amount_of rows) o.lines) n.customer.now.discount n.warehouse.now.tax n.district.now.tax) (map (λ line. entered_line rows o line.0 line.1) (enumerate_from 1 o.lines))
    ≡ accepted_order rows o
unfolding accepted_order
accepted_is rows o n h =
    λ i. let w = unwrap_or (sym h.warehouse i) no_warehouse in
    let d = unwrap_or (sym h.district i) no_district in
    let c = unwrap_or (sym h.customer i) no_customer in
    accepted_from o w d c (order_total (total (amount_of rows) o.lines) c.discount w.tax d.tax) (map (λ line. entered_line rows o line.0 line.1) (enumerate_from 1 o.lines))

pub rolled_back_is : (rows : Rows) (o : Order) (n : OrderRows) → IsNamed rows o n → rolled_back_from o n.district.now n.customer.now ≡ rolled_back_order rows o
unfolding rolled_back_order
rolled_back_is rows o n h = λ i. rolled_back_from o (unwrap_or (sym h.district i) no_district) (unwrap_or (sym h.customer i) no_customer)

-- the number that is shown is the order's
pub number_shown : (rows : Rows) (o : Order) (shown : AcceptedOrder) → shown ≡ accepted_order rows o → shown.order ≡ order_number rows o
unfolding accepted_order
number_shown rows o shown e = ap (λ (a : AcceptedOrder). a.order) e

-- ---- what is known of an order that its input does not refuse

pub district_within : (rows : Rows) (o : Order) (n : OrderRows) → IsInRange rows → IsNamed rows o n → is_within 1 10 o.district ≡ true
district_within rows o n h k =
    let p = found_passes (is_district o.warehouse o.district) is_district_row rows.districts n.district.now k.district h.districts in
    ap (is_within 1 10) (sym (district_key_is o.warehouse o.district n.district.now p.0).1) ∙ (district_tells n.district.now p.1).0

passes_all : {X : Type 0} (p : X → Bool) (xs : List X) → list_any (λ x. not (p x)) xs ≡ false → list_all p xs ≡ true
passes_all p [] e = refl
passes_all p (x ∷ xs) e = grind (arith, passes_all p xs)

present_all : {X Y : Type 0} (f : X → Option Y) (xs : List X) → list_any (λ x. is_none (f x)) xs ≡ false → list_all (λ x. is_some (f x)) xs ≡ true
present_all f [] e = refl
present_all f (x ∷ xs) e = grind (arith, some_if (f x), present_all f xs)

-- where nothing refuses the input and each item is used, each line can be served
pub servable : (rows : Rows) (o : Order) → IsStocked rows → order_refusal_by_input rows o ≡ None → is_rolled_back rows o ≡ false → IsServable rows o.lines
unfolding order_input_tests
servable rows o stocked accepted used =
    let t = all_false (order_input_tests rows o) accepted in
    let few = within 5 15 (length o.lines) (not_false (is_within 5 15 (length o.lines)) t.1.1.1.0) in
    let q = passes_all (λ (l : Line). is_within 1 10 l.quantity) o.lines t.1.1.1.1.0 in
    let i = present_all (λ (l : Line). find_item rows l.item) o.lines used in
    let s = lines_stocked rows o.lines stocked t.1.1.1.1.1.0 used in
    record {
      few = few.1;
      each = list_all_both (λ l. is_within 1 10 l.quantity && is_some (find_item rows l.item)) (λ l. is_some (find_stock rows l.supply l.item)) o.lines (list_all_both (λ l. is_within 1 10 l.quantity) (λ l. is_some (find_item rows l.item)) o.lines q i) s;
    }

-- ---- why an order is refused, and that it is not

-- the lines of an order that nothing refuses and nothing rolls back can be served
pub servable_if : (rows : Rows) (o : Order) → IsStocked rows → order_refusal rows o ≡ None → is_rolled_back rows o ≡ false → IsServable rows o.lines
servable_if rows o stocked none used = servable rows o stocked (first_none (order_refusal_by_input rows o) _ none) used

-- an order that nothing refuses has at most fifteen lines
pub few_lines : (rows : Rows) (o : Order) → order_refusal rows o ≡ None → length o.lines ≤ 15
unfolding order_input_tests
few_lines rows o none =
    let t = all_false (order_input_tests rows o) (first_none (order_refusal_by_input rows o) _ none) in
    (within 5 15 (length o.lines) (not_false (is_within 5 15 (length o.lines)) t.1.1.1.0)).1

-- ---- what an order does

pub lines_length : (rows : Rows) (o : Order) (n : ℕ) (ls : List Line) → length (map (λ line. order_line_row rows o line.0 line.1) (enumerate_from n ls)) ≡ length ls
lines_length rows o n [] = refl
lines_length rows o n (l ∷ ls) = omega (arith, lines_length rows o (n + 1) ls)

-- the rows that are written are the order's
pub written_is : (rows : Rows) (o : Order) (row : OrderRow) (lines : List OrderLineRow) → IsStocked rows → order_refusal rows o ≡ None → is_rolled_back rows o ≡ false → is_moment o.moment ≡ true
    → row ≡ order_row rows o → lines ≡ order_line_rows rows o → IsOrderOf rows row lines o
written_is rows o row lines stocked accepted entered moment order_is lines_are =
    record { accepted = accepted; entered = entered; moment = moment; stocked = stocked; order_is = order_is; lines_are = lines_are }
