-- What is known of the amounts of a delivery that nothing refuses.
use Rattle.std.proofs.Common.{◌≡◌, ℕ, zero, suc, ◌+◌, ◌*◌, ◌<◌, ◌^◌, Bool, true, List, [], ◌∷◌, take, length, refl, sym, ◌∙◌, arith, Option, Some, None}
use Rattle.std.specs.Prelude.{ℤ, pos, neg_ℤ, ◌+ℤ◌, ◌≤ℤ◌, filter, unwrap_or, not, FitsSigned}
use Rattle.std.specs.Int.{w64}
use Rattle.std.specs.List.{list_all}
use Rattle.std.proofs.lemmas.Int.{ints}
use Rattle.tpcc_money.specs.Amounts.{total}
use Rattle.tpcc_rows.specs.declared.tables.rows.CustomerRow.{CustomerRow}
use Rattle.tpcc_rows.specs.declared.tables.rows.OrderRow.{OrderRow}
use Rattle.tpcc_rows.specs.declared.tables.rows.OrderLineRow.{OrderLineRow}
use Rattle.tpcc_rows.specs.declared.tables.rows.NewOrderRow.{NewOrderRow}
use Rattle.tpcc_rows.specs.Lists.{updated}
use Rattle.tpcc_rows.specs.Ranges.{is_balance, is_total, is_count, is_text, is_exact_text, is_amount_within, is_customer_row, is_order_line_row, is_carrier, is_moment}
use Rattle.tpcc_rows.specs.Tables.{Rows, is_customer, is_order, is_new_order, is_line_of, lines_of, find_customer, customer_at, order_at, no_customer}
use Rattle.tpcc_rows.specs.WellKeyed.{IsInRange, IsWellKeyed}
use Rattle.tpcc_rows.specs.Delivery.{order_amount, district_refusal, delivery_tests, after_delivery, delivered_customer}
use Rattle.tpcc_laws.proofs.DeliveryKeeps.{with_carrier, with_delivery_date}
use Rattle.tpcc_laws.proofs.DeliveryKeys.{delivery_is_keyed, delivery_has_parents}
use Rattle.tpcc_laws.proofs.DeliveryRanges.{delivery_in_range}
use Rattle.tpcc_laws.proofs.List.{list_all-mono}
use Rattle.tpcc_tables.proofs.Line.{few_lines}
use Rattle.tpcc_laws.proofs.Numbers.{amount_within, balance_fits, count_fits, not_false}
use Rattle.tpcc_rows.proofs.Booleans.{split}
use Rattle.tpcc_laws.proofs.Remove.{found_passes}
use Rattle.tpcc_laws.proofs.TurnKeeps.{all_false}
use Rattle.tpcc_rows.specs.declared.limits.TheConstants.{GREATEST_LINE_AMOUNT, GREATEST_TOTAL}

abbrev pub is_paid : OrderLineRow → Bool
is_paid l = is_amount_within (pos 0) GREATEST_LINE_AMOUNT l.amount

pub line_is_paid : (l : OrderLineRow) → is_order_line_row l ≡ true → is_paid l ≡ true
unfolding is_order_line_row
line_is_paid l h = (split _ (is_paid l) (split _ (is_exact_text 24 l.district_information) h).0).1

balance_in_range : (c : CustomerRow) → is_customer_row c ≡ true → is_balance c.balance ≡ true
unfolding is_customer_row
balance_in_range c h =
    let a = split _ (is_text 500 c.information) h in
    let b = split _ (is_count c.delivery_count) a.0 in
    let d = split _ (is_count c.payment_count) b.0 in
    let e = split _ (is_total c.ytd_payment) d.0 in
    (split _ (is_balance c.balance) e.0).1

-- the amounts of an order's lines up to a place are at most those of all of them
abbrev IsPart : ℤ → ℤ → Type 0
IsPart s t = (pos 0 ≤ℤ s) × (s ≤ℤ t)

paid_above : (xs : List OrderLineRow) → list_all is_paid xs ≡ true → pos 0 ≤ℤ total (λ l. l.amount) xs
paid_above [] h = omega (arith, ints)
paid_above (x ∷ xs) h =
    let s = split (is_paid x) (list_all is_paid xs) h in
    let a = amount_within (pos 0) GREATEST_LINE_AMOUNT x.amount s.0 in
    let rest = paid_above xs s.1 in
    omega (arith, ints, a, rest)

part_paid : (xs : List OrderLineRow) (k : ℕ) → list_all is_paid xs ≡ true → IsPart (total (λ l. l.amount) (take k xs)) (total (λ l. l.amount) xs)
part_paid xs zero h = (omega (arith, ints), paid_above xs h)
part_paid [] (suc k) h = (omega (arith, ints), omega (arith, ints))
part_paid (x ∷ xs) (suc k) h =
    let s = split (is_paid x) (list_all is_paid xs) h in
    let a = amount_within (pos 0) GREATEST_LINE_AMOUNT x.amount s.0 in
    let rest = part_paid xs k s.1 in
    (omega (arith, ints, a, rest), omega (arith, ints, a, rest))

paid_lines : (q : OrderLineRow → Bool) (xs : List OrderLineRow) → list_all is_paid xs ≡ true → list_all is_paid (filter q xs) ≡ true
paid_lines q [] h = refl
paid_lines q (x ∷ xs) h = grind (arith, paid_lines q xs)

paid_below : (xs : List OrderLineRow) → list_all is_paid xs ≡ true → total (λ l. l.amount) xs ≤ℤ pos (length xs * 999999)
paid_below [] h = omega (arith, ints)
paid_below (x ∷ xs) h =
    let s = split (is_paid x) (list_all is_paid xs) h in
    let a = amount_within (pos 0) GREATEST_LINE_AMOUNT x.amount s.0 in
    let rest = paid_below xs s.1 in
    omega (arith, ints, a, rest)

-- the sum of an order's lines fits at each step
pub amount_fits : (rows : Rows) (w d o k : ℕ) → IsWellKeyed rows → FitsSigned w64 (total (λ l. l.amount) (take k (lines_of rows w d o)))
amount_fits rows w d o k well =
    let paid = paid_lines (is_line_of w d o) rows.order_lines (list_all-mono is_order_line_row is_paid line_is_paid rows.order_lines well.ranges.order_lines) in
    let part = part_paid (lines_of rows w d o) k paid in
    omega (arith, ints, part, paid_below (lines_of rows w d o) paid, few_lines rows w d o well)

-- ---- the customer's balance before and after

balance_of : (rows : Rows) (w d k : ℕ) (o : Option CustomerRow) → find_customer rows w d k ≡ o → IsInRange rows → is_balance (customer_at rows w d k).balance ≡ true
balance_of rows w d k None e h = λ i. is_balance (unwrap_or (e i) no_customer).balance
balance_of rows w d k (Some c) e h = (λ i. is_balance (unwrap_or (e i) no_customer).balance) ∙ balance_in_range c (found_passes (is_customer w d k) is_customer_row rows.customers c e h.customers).1

part_fits : (b a s : ℤ) → is_balance b ≡ true → is_balance (b +ℤ a) ≡ true → IsPart s a → FitsSigned w64 s
part_fits b a s h k p =
    let before = amount_within (neg_ℤ GREATEST_TOTAL) GREATEST_TOTAL b h in
    let after = amount_within (neg_ℤ GREATEST_TOTAL) GREATEST_TOTAL (b +ℤ a) k in
    omega (arith, ints, before, after, p)

pub record IsDeliverable (rows : Rows) (w d o : ℕ) : Type 0 where
  pub parts : (k : ℕ) → FitsSigned w64 (total (λ l. l.amount) (take k (filter (is_line_of w d o) rows.order_lines)))
  pub balance : (c : CustomerRow) → find_customer rows w d (order_at rows w d o).customer ≡ Some c → FitsSigned w64 (c.balance +ℤ order_amount rows w d o)
  pub count : (c : CustomerRow) → find_customer rows w d (order_at rows w d o).customer ≡ Some c → c.delivery_count + 1 < 2 ^ 32

pub deliverable : (rows : Rows) (w d o : ℕ) → IsInRange rows → district_refusal rows w d (Some o) ≡ None → IsDeliverable rows w d o
deliverable rows w d o h none =
    let t = all_false (delivery_tests rows w d o) none in
    let k = (order_at rows w d o).customer in
    let after = not_false _ t.1.0 in
    let paid = list_all-mono is_order_line_row is_paid line_is_paid rows.order_lines h.order_lines in
    record {
      parts = λ n. part_fits (customer_at rows w d k).balance (order_amount rows w d o) _ (balance_of rows w d k (find_customer rows w d k) refl h) after (part_paid (filter (is_line_of w d o) rows.order_lines) n (paid_lines (is_line_of w d o) rows.order_lines paid));
      balance = λ c e. balance_fits (c.balance +ℤ order_amount rows w d o) ((λ i. is_balance ((unwrap_or (sym e i) no_customer).balance +ℤ order_amount rows w d o)) ∙ after);
      count = λ c e. count_fits (c.delivery_count + 1) ((λ i. is_count ((unwrap_or (sym e i) no_customer).delivery_count + 1)) ∙ not_false _ t.0);
    }

-- ---- what is written is the delivery

pub delivered_rows : (rows : Rows) (w d o carrier at customer : ℕ) (amount : ℤ) (news : List NewOrderRow) (orders : List OrderRow) (lines : List OrderLineRow) (customers : List CustomerRow) → customer ≡ (order_at rows w d o).customer → amount ≡ order_amount rows w d o → news ≡ filter (λ n. not (is_new_order w d o n)) rows.new_orders → orders ≡ updated (is_order w d o) (with_carrier carrier) rows.orders → lines ≡ updated (is_line_of w d o) (with_delivery_date at) rows.order_lines → customers ≡ updated (is_customer w d customer) (delivered_customer amount) rows.customers → record rows { new_orders = news; orders = orders; order_lines = lines; customers = customers } ≡ after_delivery rows w d o carrier at
unfolding after_delivery
delivered_rows rows w d o carrier at customer amount news orders lines customers k a n e l c =
    (λ i. record rows { new_orders = n i; orders = e i; order_lines = l i; customers = c i })
    ∙ (λ i. record rows { new_orders = filter (λ n. not (is_new_order w d o n)) rows.new_orders; orders = updated (is_order w d o) (with_carrier carrier) rows.orders; order_lines = updated (is_line_of w d o) (with_delivery_date at) rows.order_lines; customers = updated (is_customer w d (k i)) (delivered_customer (a i)) rows.customers })

pub delivered_is_well_keyed : (rows : Rows) (w d o carrier at : ℕ) → is_carrier carrier ≡ true → is_moment at ≡ true → district_refusal rows w d (Some o) ≡ None → IsWellKeyed rows → IsWellKeyed (after_delivery rows w d o carrier at)
delivered_is_well_keyed rows w d o carrier at hc hm none well =
    record { keyed = delivery_is_keyed rows w d o carrier at well.keyed; parents = delivery_has_parents rows w d o carrier at well.parents; ranges = delivery_in_range rows w d o carrier at hc hm none well.keyed well.ranges }
