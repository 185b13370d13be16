-- What is known of the rows that a payment names, where nothing refuses it.
use Rattle.std.proofs.Common.{◌≡◌, ◌+◌, true, sym, ap, ◌∙◌}
use Rattle.std.specs.Prelude.{pos, ◌+ℤ◌, ◌-ℤ◌, is_none, Some, None, unwrap_or}
use Rattle.tpcc_rows.specs.declared.tables.rows.WarehouseRow.{WarehouseRow}
use Rattle.tpcc_rows.specs.declared.tables.rows.DistrictRow.{DistrictRow}
use Rattle.tpcc_rows.specs.declared.tables.rows.CustomerRow.{CustomerRow}
use Rattle.tpcc_rows.specs.declared.transactions.requests.Payment.{Payment}
use Rattle.tpcc_rows.specs.Lists.{is_ascending}
use Rattle.tpcc_rows.specs.Ranges.{is_amount_within, is_total, is_balance, is_count}
use Rattle.tpcc_rows.specs.Tables.{Rows, customer_key, find_warehouse, find_district, find_customer, warehouse_at, district_at, no_warehouse, no_district, no_customer}
use Rattle.tpcc_rows.specs.ChosenCustomer.{chosen_customer}
use Rattle.tpcc_rows.specs.Payment.{payment_refusal, payment_tests, paying_customer}
use Rattle.tpcc_laws.proofs.TurnKeeps.{all_false, some_if, neither}
use Rattle.tpcc_laws.proofs.DeliveryKeeps.{some_of}
use Rattle.tpcc_laws.proofs.Numbers.{not_false}
use Rattle.tpcc_laws.proofs.ChosenRow.{chosen_row}
use Rattle.tpcc_rows.specs.declared.limits.TheConstants.{GREATEST_PAYMENT}

pub record IsPaid (rows : Rows) (p : Payment) : Type 0 where
  pub warehouse : WarehouseRow
  pub district : DistrictRow
  pub customer : CustomerRow
  pub warehouse_is : find_warehouse rows p.warehouse ≡ Some warehouse
  pub district_is : find_district rows p.warehouse p.district ≡ Some district
  pub customer_is : find_customer rows customer.warehouse customer.district customer.id ≡ Some customer
  pub payer : paying_customer rows p ≡ customer
  pub amount : is_amount_within (pos 100) GREATEST_PAYMENT p.amount ≡ true
  pub warehouse_ytd : is_total (warehouse.ytd +ℤ p.amount) ≡ true
  pub district_ytd : is_total (district.ytd +ℤ p.amount) ≡ true
  pub balance : is_balance (customer.balance -ℤ p.amount) ≡ true
  pub ytd_payment : is_total (customer.ytd_payment +ℤ p.amount) ≡ true
  pub count : is_count (customer.payment_count + 1) ≡ true

pub payment_facts : (rows : Rows) (p : Payment) → is_ascending customer_key rows.customers ≡ true → payment_refusal rows p ≡ None → IsPaid rows p
unfolding payment_tests
payment_facts rows p keyed e =
    let t = all_false (payment_tests rows p) e in
    let w = some_of (find_warehouse rows p.warehouse) (some_if (find_warehouse rows p.warehouse) (neither (is_none (find_warehouse rows p.warehouse)) _ t.0)) in
    let d = some_of (find_district rows p.warehouse p.district) (some_if (find_district rows p.warehouse p.district) (neither (is_none (find_district rows p.warehouse p.district)) _ t.1.0)) in
    let c = some_of (chosen_customer rows p.customer_warehouse p.customer_district p.who) (some_if (chosen_customer rows p.customer_warehouse p.customer_district p.who) t.1.1.0) in
    let w_at : warehouse_at rows p.warehouse ≡ w.0 = λ i. unwrap_or (w.1 i) no_warehouse in
    let d_at : district_at rows p.warehouse p.district ≡ d.0 = λ i. unwrap_or (d.1 i) no_district in
    let payer : paying_customer rows p ≡ c.0 = λ i. unwrap_or (c.1 i) no_customer in
    record {
      warehouse = w.0;
      district = d.0;
      customer = c.0;
      warehouse_is = w.1;
      district_is = d.1;
      customer_is = chosen_row rows p.customer_warehouse p.customer_district p.who c.0 keyed c.1;
      payer = payer;
      amount = not_false _ t.1.1.1.0;
      warehouse_ytd = ap (λ (x : WarehouseRow). is_total (x.ytd +ℤ p.amount)) (sym w_at) ∙ not_false _ t.1.1.1.1.1.0;
      district_ytd = ap (λ (x : DistrictRow). is_total (x.ytd +ℤ p.amount)) (sym d_at) ∙ not_false _ t.1.1.1.1.1.1.0;
      balance = ap (λ (x : CustomerRow). is_balance (x.balance -ℤ p.amount)) (sym payer) ∙ not_false _ t.1.1.1.1.1.1.1.0;
      ytd_payment = ap (λ (x : CustomerRow). is_total (x.ytd_payment +ℤ p.amount)) (sym payer) ∙ not_false _ t.1.1.1.1.1.1.1.1.0;
      count = ap (λ (x : CustomerRow). is_count (x.payment_count + 1)) (sym payer) ∙ not_false _ t.1.1.1.1.0;
    }
