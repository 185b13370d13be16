-- A payment that nothing refuses keeps the ranges of all columns.
use Rattle.std.proofs.Common.{◌≡◌, ℕ, ◌+◌, ◌≤◌, ◌<◌, ◌^◌, Bool, true, false, List, [], ◌∷◌, ◌++◌, take, refl, sym, ap, ◌∙◌, arith, Some, None, length-append}
use Rattle.std.specs.Prelude.{pos, ◌+ℤ◌, ◌-ℤ◌, ◌&&◌, is_some, find, decimal, codes, if◌then◌else◌, unwrap_or}
use Rattle.std.specs.List.{list_all}
use Rattle.std.proofs.lemmas.Int.{ints}
use Rattle.std.proofs.lemmas.Bool.Decides.{nat_tests}
use Rattle.std.proofs.lemmas.List.Folds.{list_all-append}
use Rattle.tpcc_money.specs.Texts.{amount_text}
use Rattle.tpcc_rows.specs.declared.tables.rows.WarehouseRow.{WarehouseRow}
use Rattle.tpcc_rows.specs.declared.tables.rows.DistrictRow.{DistrictRow}
use Rattle.tpcc_rows.specs.declared.tables.rows.CustomerRow.{CustomerRow}
use Rattle.tpcc_rows.specs.declared.transactions.requests.Payment.{Payment}
use Rattle.tpcc_rows.specs.Lists.{key_before}
use Rattle.tpcc_rows.specs.Ranges.{is_warehouse_row, is_district_row, is_customer_row, is_history_row, is_total, is_balance, is_count, is_text, is_moment, is_amount_within, is_customer_id, is_district_id, is_warehouse_id, is_within}
use Rattle.tpcc_rows.specs.Tables.{Rows, warehouse_key, district_key, customer_key, is_warehouse, is_district, is_customer, warehouse_at, district_at, no_warehouse, no_district}
use Rattle.tpcc_rows.specs.WellKeyed.{IsKeyed, IsInRange}
use Rattle.tpcc_rows.specs.Payment.{payment_refusal, after_payment, paid_warehouse, paid_district, paid_customer, payment_history, payment_note, information_after, paying_customer, has_bad_credit}
use Rattle.tpcc_laws.proofs.List.{has_one, one_of_key, list_all-updated_found}
use Rattle.tpcc_laws.proofs.Remove.{found_passes}
use Rattle.tpcc_rows.proofs.Booleans.{split, both_true}
use Rattle.tpcc_laws.proofs.Numbers.{amount_within, is_amount, within}
use Rattle.tpcc_rows.proofs.PrintableTexts.{are_printable, append_is_printable, decimal_printable}
use Rattle.tpcc_laws.proofs.TextLaws.{amount_printable, text_tells, is_a_text, cut_text}
use Rattle.tpcc_laws.proofs.PaymentFacts.{payment_facts}
use Rattle.tpcc_rows.specs.declared.limits.TheConstants.{GREATEST_LINE_AMOUNT, GREATEST_PAYMENT}

-- ---- one row of a key

warehouses_apart : (id : ℕ) (a b : WarehouseRow) → is_warehouse id a ≡ true → is_warehouse id b ≡ true → key_before (warehouse_key a) (warehouse_key b) ≡ false
warehouses_apart id a b ea eb = grind (arith, nat_tests)

districts_apart : (w d : ℕ) (a b : DistrictRow) → is_district w d a ≡ true → is_district w d b ≡ true → key_before (district_key a) (district_key b) ≡ false
districts_apart w d a b ea eb = grind (arith, nat_tests)

customers_apart : (w d k : ℕ) (a b : CustomerRow) → is_customer w d k a ≡ true → is_customer w d k b ≡ true → key_before (customer_key a) (customer_key b) ≡ false
customers_apart w d k a b ea eb = grind (arith, nat_tests)

pub one_warehouse : (rows : Rows) (w : ℕ) (x : WarehouseRow) → IsKeyed rows → find (is_warehouse w) rows.warehouses ≡ Some x → has_one (is_warehouse w) rows.warehouses ≡ true
one_warehouse rows w x keyed e = one_of_key warehouse_key (is_warehouse w) (warehouses_apart w) rows.warehouses keyed.warehouses (ap is_some e)

pub one_district : (rows : Rows) (w d : ℕ) (x : DistrictRow) → IsKeyed rows → find (is_district w d) rows.districts ≡ Some x → has_one (is_district w d) rows.districts ≡ true
one_district rows w d x keyed e = one_of_key district_key (is_district w d) (districts_apart w d) rows.districts keyed.districts (ap is_some e)

pub one_customer : (rows : Rows) (w d k : ℕ) (x : CustomerRow) → IsKeyed rows → find (is_customer w d k) rows.customers ≡ Some x → has_one (is_customer w d k) rows.customers ≡ true
one_customer rows w d k x keyed e = one_of_key customer_key (is_customer w d k) (customers_apart w d k) rows.customers keyed.customers (ap is_some e)

-- a look-up that is known finds that row alone
pub same_found : {X : Type 0} (test : X → Bool) (passes : X → Bool) (xs : List X) (x : X) → find passes xs ≡ Some x → test x ≡ true → (y : X) → find passes xs ≡ Some y → test y ≡ true
same_found test passes xs x e h y f = let same : x ≡ y = grind arith in ap test (sym same) ∙ h

-- ---- one column changed

pub last_changed : (x e e' : Bool) → (x && e) ≡ true → e' ≡ true → (x && e') ≡ true
last_changed true e e' h k = k
last_changed false e e' h k = cc

last_but_one_changed : (x e f e' : Bool) → (x && e && f) ≡ true → e' ≡ true → (x && e' && f) ≡ true
last_but_one_changed x e f e' h k = grind arith

customer_changed : (x b y c d i b' y' c' i' : Bool) → (x && b && y && c && d && i) ≡ true → b' ≡ true → y' ≡ true → c' ≡ true → i' ≡ true → (x && b' && y' && c' && d && i') ≡ true
customer_changed x b y c d i b' y' c' i' h hb hy hc hi = grind arith

richer_warehouse_row : (p : Payment) (w : WarehouseRow) → is_warehouse_row w ≡ true → is_total (w.ytd +ℤ p.amount) ≡ true → is_warehouse_row (paid_warehouse p w) ≡ true
unfolding is_warehouse_row
richer_warehouse_row p w h k = last_changed _ (is_total w.ytd) (is_total (w.ytd +ℤ p.amount)) h k

richer_district_row : (p : Payment) (d : DistrictRow) → is_district_row d ≡ true → is_total (d.ytd +ℤ p.amount) ≡ true → is_district_row (paid_district p d) ≡ true
unfolding is_district_row
richer_district_row p d h k = last_but_one_changed _ (is_total d.ytd) _ (is_total (d.ytd +ℤ p.amount)) h k

-- ---- the ranges of numbers and names of the rows

warehouse_tells : (w : WarehouseRow) → is_warehouse_row w ≡ true → (is_warehouse_id w.id ≡ true) × (is_text 10 w.name ≡ true)
unfolding is_warehouse_row
warehouse_tells w h = (grind arith, grind arith)

pub district_tells : (d : DistrictRow) → is_district_row d ≡ true → (is_district_id d.id ≡ true) × (is_warehouse_id d.warehouse ≡ true) × (is_text 10 d.name ≡ true)
unfolding is_district_row
district_tells d h = (grind arith, grind arith, grind arith)

left : (a b : Bool) → (a && b) ≡ true → a ≡ true
left a b h = (split a b h).0

pub customer_tells : (c : CustomerRow) → is_customer_row c ≡ true → (is_customer_id c.id ≡ true) × (is_district_id c.district ≡ true) × (is_warehouse_id c.warehouse ≡ true) × (is_text 500 c.information ≡ true)
unfolding is_customer_row
customer_tells c h =
    let ids = split (is_customer_id c.id && is_district_id c.district) (is_warehouse_id c.warehouse) (left _ _ (left _ _ (left _ _ (left _ _ (left _ _ (left _ _ (left _ _ (left _ _ (left _ _ (left _ _ (left _ _ (left _ _ (left _ _ (left _ _ h)))))))))))))) in
    let id = split (is_customer_id c.id) (is_district_id c.district) ids.0 in
    (id.0, id.1, ids.1, (split _ (is_text 500 c.information) h).1)

-- ---- C_DATA and H_DATA

pub note_printable : (p : Payment) (c : CustomerRow) → c.id < 2 ^ 64 → c.district < 2 ^ 64 → c.warehouse < 2 ^ 64 → p.district < 2 ^ 64 → p.warehouse < 2 ^ 64 → is_amount_within (pos 100) GREATEST_PAYMENT p.amount ≡ true → are_printable (payment_note p c) ≡ true
note_printable p c hc hd hw pd pw ha =
    let dc = decimal_printable c.id hc in
    let dd = decimal_printable c.district hd in
    let dw = decimal_printable c.warehouse hw in
    let ed = decimal_printable p.district pd in
    let ew = decimal_printable p.warehouse pw in
    let am = amount_printable p.amount ha in
    append_is_printable (decimal c.id ++ 32 ∷ decimal c.district ++ 32 ∷ decimal c.warehouse ++ 32 ∷ decimal p.district ++ 32 ∷ decimal p.warehouse ++ 32 ∷ amount_text p.amount) (32 ∷ [])
    (append_is_printable (decimal c.id ++ 32 ∷ decimal c.district ++ 32 ∷ decimal c.warehouse ++ 32 ∷ decimal p.district ++ 32 ∷ decimal p.warehouse) (32 ∷ amount_text p.amount)
    (append_is_printable (decimal c.id ++ 32 ∷ decimal c.district ++ 32 ∷ decimal c.warehouse ++ 32 ∷ decimal p.district) (32 ∷ decimal p.warehouse)
    (append_is_printable (decimal c.id ++ 32 ∷ decimal c.district ++ 32 ∷ decimal c.warehouse) (32 ∷ decimal p.district)
    (append_is_printable (decimal c.id ++ 32 ∷ decimal c.district) (32 ∷ decimal c.warehouse) (append_is_printable (decimal c.id) (32 ∷ decimal c.district) dc dd) dw) ed) ew) am) refl

information_text : (b : Bool) (note old : List ℕ) → are_printable note ≡ true → is_text 500 old ≡ true → is_text 500 (if b then take 500 (note ++ old) else old) ≡ true
information_text true note old h k = cut_text 500 (note ++ old) (append_is_printable note old h (text_tells 500 old k).1)
information_text false note old h k = k

history_text : (a b : List ℕ) → is_text 10 a ≡ true → is_text 10 b ≡ true → is_text 24 (a ++ codes "    " ++ b) ≡ true
history_text a b h k =
    let ta = text_tells 10 a h in
    let tb = text_tells 10 b k in
    is_a_text 24 (a ++ codes "    " ++ b) (omega (arith, length-append (a ++ codes "    ") b, length-append a (codes "    "))) (append_is_printable (a ++ codes "    ") b (append_is_printable a (codes "    ") ta.1 refl) tb.1)

small_id : (high n : ℕ) → high ≤ 100000 → is_within 1 high n ≡ true → n < 2 ^ 64
small_id high n l h = let s = within 1 high n h in omega arith

pub district_key_is : (w d : ℕ) (x : DistrictRow) → is_district w d x ≡ true → (x.warehouse ≡ w) × (x.id ≡ d)
district_key_is w d x h = (grind (arith, nat_tests), grind (arith, nat_tests))

-- the row that is appended
history_row : (rows : Rows) (p : Payment) (w : WarehouseRow) (d : DistrictRow) (c : CustomerRow) → warehouse_at rows p.warehouse ≡ w → district_at rows p.warehouse p.district ≡ d → is_district p.warehouse p.district d ≡ true → is_warehouse_row w ≡ true → is_district_row d ≡ true → is_customer_row c ≡ true → is_moment p.moment ≡ true → is_amount_within (pos 100) GREATEST_PAYMENT p.amount ≡ true → is_history_row (payment_history rows p c) ≡ true
unfolding is_history_row
history_row rows p w d c ew ed at hw hd hc hm ha =
    let tw = warehouse_tells w hw in
    let td = district_tells d hd in
    let tc = customer_tells c hc in
    let key = district_key_is p.warehouse p.district d at in
    let am = amount_within (pos 100) GREATEST_PAYMENT p.amount ha in
    let text : is_text 24 ((warehouse_at rows p.warehouse).name ++ codes "    " ++ (district_at rows p.warehouse p.district).name) ≡ true =
    (λ i. is_text 24 ((ew i).name ++ codes "    " ++ (ed i).name)) ∙ history_text w.name d.name tw.1 td.2 in
    both_true _ _ (both_true _ _ (both_true _ _ (both_true _ _ (both_true _ _ (both_true _ _ (both_true _ _ tc.0 tc.1) tc.2) (ap is_district_id (sym key.1) ∙ td.0)) (ap is_warehouse_id (sym key.0) ∙ td.1)) hm) (is_amount (pos 1) GREATEST_LINE_AMOUNT p.amount (omega (arith, ints)) (omega (arith, ints)))) text

-- the note of a payment, where its district and its customer are in their ranges
note_of : (p : Payment) (d : DistrictRow) (c : CustomerRow) → is_district p.warehouse p.district d ≡ true → is_district_row d ≡ true → is_customer_row c ≡ true → is_amount_within (pos 100) GREATEST_PAYMENT p.amount ≡ true → are_printable (payment_note p c) ≡ true
note_of p d c at hd hc ha =
    let td = district_tells d hd in
    let tc = customer_tells c hc in
    let key = district_key_is p.warehouse p.district d at in
    note_printable p c (small_id 3000 c.id (omega arith) tc.0) (small_id 10 c.district (omega arith) tc.1) (small_id 100 c.warehouse (omega arith) tc.2) (small_id 10 p.district (omega arith) (ap is_district_id (sym key.1) ∙ td.0)) (small_id 100 p.warehouse (omega arith) (ap is_warehouse_id (sym key.0) ∙ td.1)) ha

paid_customer_row : (rows : Rows) (p : Payment) (d : DistrictRow) (c : CustomerRow) → is_district p.warehouse p.district d ≡ true → is_district_row d ≡ true → is_customer_row c ≡ true → is_amount_within (pos 100) GREATEST_PAYMENT p.amount ≡ true → is_balance (c.balance -ℤ p.amount) ≡ true → is_total (c.ytd_payment +ℤ p.amount) ≡ true → is_count (c.payment_count + 1) ≡ true → is_customer_row (paid_customer p c) ≡ true
unfolding is_customer_row
paid_customer_row rows p d c at hd hc ha hb hy hn =
    let tc = customer_tells c hc in
    let note = note_of p d c at hd hc ha in
    customer_changed _ (is_balance c.balance) (is_total c.ytd_payment) (is_count c.payment_count) (is_count c.delivery_count) (is_text 500 c.information) (is_balance (c.balance -ℤ p.amount)) (is_total (c.ytd_payment +ℤ p.amount)) (is_count (c.payment_count + 1)) (is_text 500 (information_after p c)) hc hb hy hn (information_text (has_bad_credit c) (payment_note p c) c.information note tc.3)

pub payment_in_range : (rows : Rows) (p : Payment) → is_moment p.moment ≡ true → payment_refusal rows p ≡ None → IsKeyed rows → IsInRange rows → IsInRange (after_payment rows p)
unfolding after_payment
payment_in_range rows p hm e keyed h =
    let f = payment_facts rows p keyed.customers e in
    let w = found_passes (is_warehouse p.warehouse) is_warehouse_row rows.warehouses f.warehouse f.warehouse_is h.warehouses in
    let d = found_passes (is_district p.warehouse p.district) is_district_row rows.districts f.district f.district_is h.districts in
    let payer = paying_customer rows p in
    let payer_is : find (is_customer payer.warehouse payer.district payer.id) rows.customers ≡ Some payer =
    (λ i. find (is_customer (f.payer i).warehouse (f.payer i).district (f.payer i).id) rows.customers) ∙ f.customer_is ∙ ap Some (sym f.payer) in
    let c = found_passes (is_customer payer.warehouse payer.district payer.id) is_customer_row rows.customers payer payer_is h.customers in
    let row = history_row rows p f.warehouse f.district payer (λ i. unwrap_or (f.warehouse_is i) no_warehouse) (λ i. unwrap_or (f.district_is i) no_district) d.0 w.1 d.1 c.1 hm f.amount in
    let changed = paid_customer_row rows p f.district payer d.0 d.1 c.1 f.amount (ap (λ (x : CustomerRow). is_balance (x.balance -ℤ p.amount)) f.payer ∙ f.balance) (ap (λ (x : CustomerRow). is_total (x.ytd_payment +ℤ p.amount)) f.payer ∙ f.ytd_payment) (ap (λ (x : CustomerRow). is_count (x.payment_count + 1)) f.payer ∙ f.count) in
    record {
      warehouses = list_all-updated_found is_warehouse_row (is_warehouse p.warehouse) (paid_warehouse p) rows.warehouses h.warehouses (one_warehouse rows p.warehouse f.warehouse keyed f.warehouse_is)
          (same_found (λ x. is_warehouse_row (paid_warehouse p x)) (is_warehouse p.warehouse) rows.warehouses f.warehouse f.warehouse_is (richer_warehouse_row p f.warehouse w.1 f.warehouse_ytd));
      districts = list_all-updated_found is_district_row (is_district p.warehouse p.district) (paid_district p) rows.districts h.districts (one_district rows p.warehouse p.district f.district keyed f.district_is)
          (same_found (λ x. is_district_row (paid_district p x)) (is_district p.warehouse p.district) rows.districts f.district f.district_is (richer_district_row p f.district d.1 f.district_ytd));
      customers = list_all-updated_found is_customer_row (is_customer payer.warehouse payer.district payer.id) (paid_customer p) rows.customers h.customers (one_customer rows payer.warehouse payer.district payer.id payer keyed payer_is)
          (same_found (λ x. is_customer_row (paid_customer p x)) (is_customer payer.warehouse payer.district payer.id) rows.customers payer payer_is changed);
      histories = list_all-append is_history_row rows.histories (payment_history rows p payer ∷ []) ∙ both_true (list_all is_history_row rows.histories) _ h.histories (both_true (is_history_row (payment_history rows p payer)) true row refl);
      orders = h.orders;
      order_lines = h.order_lines;
      new_orders = h.new_orders;
      items = h.items;
      stocks = h.stocks;
    }
