-- The rows of a payment, written one by one.
use Rattle.std.proofs.Common.{◌≡◌, ℕ, ◌+◌, ◌<◌, ◌^◌, Bool, true, List, [], ◌∷◌, refl, sym, ap, ◌∙◌, subst, arith, Some, Option}
use Rattle.std.specs.Prelude.{◌+ℤ◌, ◌-ℤ◌, find, FitsSigned, unwrap_or, is_some}
use Rattle.std.specs.Int.{w64}
use Rattle.tpcc_rows.specs.declared.tables.rows.WarehouseRow.{WarehouseRow}
use Rattle.tpcc_rows.specs.declared.tables.rows.DistrictRow.{DistrictRow}
use Rattle.tpcc_rows.specs.declared.tables.rows.CustomerRow.{CustomerRow}
use Rattle.tpcc_rows.specs.declared.tables.rows.HistoryRow.{HistoryRow}
use Rattle.tpcc_rows.specs.declared.transactions.requests.Payment.{Payment}
use Rattle.tpcc_rows.specs.Lists.{updated}
use Rattle.tpcc_rows.specs.Ranges.{is_total, is_balance, is_count}
use Rattle.tpcc_rows.specs.Tables.{Rows, is_warehouse, is_district, is_customer, find_warehouse, find_district, find_customer}
use Rattle.tpcc_rows.specs.WellKeyed.{IsKeyed, IsWellKeyed}
use Rattle.tpcc_rows.specs.Payment.{after_payment, payment_history, paying_customer, paid_customer, information_after}
use Rattle.tpcc_laws.proofs.List.{has_one, updated_absent}
use Rattle.tpcc_laws.proofs.Numbers.{total_fits, balance_fits, count_fits}
use Rattle.tpcc_laws.proofs.PaymentFacts.{IsPaid, payment_facts}
use Rattle.tpcc_laws.proofs.PaymentRanges.{one_customer, payment_in_range, same_found}
use Rattle.tpcc_laws.proofs.PaymentParents.{payment_is_keyed, payment_has_parents}
use Rattle.tpcc_tables.specs.Writes.{with_payment, customer_after_payment, IsPaymentOf, IsPayment}

-- two changes that agree on the one row that is changed
pub updated_agree : {X : Type 0} (passes : X → Bool) (f g : X → X) (xs : List X) (x : X) → has_one passes xs ≡ true → find passes xs ≡ Some x → f x ≡ g x → updated passes f xs ≡ updated passes g xs
updated_agree passes f g [] x one e same = refl
updated_agree passes f g (y ∷ xs) x one e same = grind (arith, updated_absent passes f xs, updated_absent passes g xs, updated_agree passes f g xs x)

paying_is_paid : (p : Payment) (info : Option (List ℕ)) (c : CustomerRow) → unwrap_or info c.information ≡ information_after p c → customer_after_payment p.amount info c ≡ paid_customer p c
paying_is_paid p info c e = λ i. record c { balance = c.balance -ℤ p.amount; ytd_payment = c.ytd_payment +ℤ p.amount; payment_count = c.payment_count + 1; information = e i }

payer_found : (rows : Rows) (p : Payment) (f : IsPaid rows p) → let payer = paying_customer rows p in find_customer rows payer.warehouse payer.district payer.id ≡ Some payer
payer_found rows p f = (λ i. find (is_customer (f.payer i).warehouse (f.payer i).district (f.payer i).id) rows.customers) ∙ f.customer_is ∙ ap Some (sym f.payer)

-- what is written is what the payment does
written_history : (rows : Rows) (info : Option (List ℕ)) (p : Payment) → IsKeyed rows → IsPaid rows p → unwrap_or info (paying_customer rows p).information ≡ information_after p (paying_customer rows p) → with_payment rows (payment_history rows p (paying_customer rows p)) info ≡ after_payment rows p
unfolding with_payment after_payment
written_history rows info p keyed f e =
    let payer = paying_customer rows p in
    let found = payer_found rows p f in
    let customers : updated (is_customer payer.warehouse payer.district payer.id) (customer_after_payment p.amount info) rows.customers ≡ updated (is_customer payer.warehouse payer.district payer.id) (paid_customer p) rows.customers =
    updated_agree (is_customer payer.warehouse payer.district payer.id) (customer_after_payment p.amount info) (paid_customer p) rows.customers payer (one_customer rows payer.warehouse payer.district payer.id payer keyed found) found (paying_is_paid p info payer e) in
    λ i. record (after_payment rows p) { customers = customers i }

pub payment_is : (rows : Rows) (h : HistoryRow) (info : Option (List ℕ)) (p : Payment) → IsKeyed rows → IsPaymentOf rows h info p → with_payment rows h info ≡ after_payment rows p
payment_is rows h info p keyed k =
    ap (λ (x : HistoryRow). with_payment rows x info) k.history ∙ written_history rows info p keyed (payment_facts rows p keyed.customers k.accepted) k.information_is

pub paid_is_well_keyed : (rows : Rows) (h : HistoryRow) (info : Option (List ℕ)) (k : IsPayment rows h info) → IsWellKeyed rows → IsWellKeyed (with_payment rows h info)
paid_is_well_keyed rows h info k well =
    let p = k.0 in
    let f = payment_facts rows p well.keyed.customers k.1.accepted in
    let after : IsWellKeyed (after_payment rows p) =
    record {
      keyed = payment_is_keyed rows p well.keyed;
      parents = payment_has_parents rows p (ap is_some (payer_found rows p f)) (ap is_some f.district_is) well.parents;
      ranges = payment_in_range rows p k.1.moment k.1.accepted well.keyed well.ranges;
    } in
    subst IsWellKeyed (sym (payment_is rows h info p well.keyed k.1)) after

-- ---- the new amounts and counts fit

pub record IsPayable (rows : Rows) (h : HistoryRow) : Type 0 where
  pub warehouse : (w : WarehouseRow) → find_warehouse rows h.warehouse ≡ Some w → FitsSigned w64 (w.ytd +ℤ h.amount)
  pub district : (d : DistrictRow) → find_district rows h.warehouse h.district ≡ Some d → FitsSigned w64 (d.ytd +ℤ h.amount)
  pub balance : (c : CustomerRow) → find_customer rows h.customer_warehouse h.customer_district h.customer ≡ Some c → FitsSigned w64 (c.balance -ℤ h.amount)
  pub paid : (c : CustomerRow) → find_customer rows h.customer_warehouse h.customer_district h.customer ≡ Some c → FitsSigned w64 (c.ytd_payment +ℤ h.amount)
  pub count : (c : CustomerRow) → find_customer rows h.customer_warehouse h.customer_district h.customer ≡ Some c → c.payment_count + 1 < 2 ^ 32

payable_history : (rows : Rows) (p : Payment) → IsPaid rows p → IsPayable rows (payment_history rows p (paying_customer rows p))
payable_history rows p f =
    let payer = paying_customer rows p in
    let found = payer_found rows p f in
    record {
      warehouse = λ w e. total_fits (w.ytd +ℤ p.amount) (same_found (λ x. is_total (x.ytd +ℤ p.amount)) (is_warehouse p.warehouse) rows.warehouses f.warehouse f.warehouse_is f.warehouse_ytd w e);
      district = λ d e. total_fits (d.ytd +ℤ p.amount) (same_found (λ x. is_total (x.ytd +ℤ p.amount)) (is_district p.warehouse p.district) rows.districts f.district f.district_is f.district_ytd d e);
      balance = λ c e. balance_fits (c.balance -ℤ p.amount) (same_found (λ x. is_balance (x.balance -ℤ p.amount)) (is_customer payer.warehouse payer.district payer.id) rows.customers payer found (ap (λ (x : CustomerRow). is_balance (x.balance -ℤ p.amount)) f.payer ∙ f.balance) c e);
      paid = λ c e. total_fits (c.ytd_payment +ℤ p.amount) (same_found (λ x. is_total (x.ytd_payment +ℤ p.amount)) (is_customer payer.warehouse payer.district payer.id) rows.customers payer found (ap (λ (x : CustomerRow). is_total (x.ytd_payment +ℤ p.amount)) f.payer ∙ f.ytd_payment) c e);
      count = λ c e. count_fits (c.payment_count + 1) (same_found (λ x. is_count (x.payment_count + 1)) (is_customer payer.warehouse payer.district payer.id) rows.customers payer found (ap (λ (x : CustomerRow). is_count (x.payment_count + 1)) f.payer ∙ f.count) c e);
    }

pub payable : (rows : Rows) (h : HistoryRow) (info : Option (List ℕ)) → IsKeyed rows → IsPayment rows h info → IsPayable rows h
payable rows h info keyed k = subst (IsPayable rows) (sym k.1.history) (payable_history rows k.0 (payment_facts rows k.0 keyed.customers k.1.accepted))
