-- 2.5: Payment.
use Rattle.tpcc_rows.specs.declared.limits.TheConstants.{LEAST_PAYMENT, GREATEST_PAYMENT}
use Rattle.std.specs.Prelude.{ℕ, ◌+◌, Bool, not, ◌||◌, List, [], ◌∷◌, ◌++◌, take, ℤ, ◌+ℤ◌, ◌-ℤ◌, is_none, Option, Some, None, unwrap_or, if◌then◌else◌, codes, decimal}
use Rattle.std.specs.Str.{bytes_eq}
use Rattle.tpcc_money.specs.Texts.{amount_text}
use Rattle.tpcc_rows.specs.declared.tables.rows.WarehouseRow.{WarehouseRow}
use Rattle.tpcc_rows.specs.declared.tables.rows.DistrictRow.{DistrictRow}
use Rattle.tpcc_rows.specs.declared.tables.rows.CustomerRow.{CustomerRow}
use Rattle.tpcc_rows.specs.declared.tables.rows.HistoryRow.{HistoryRow}
use Rattle.tpcc_rows.specs.declared.transactions.requests.Payment.{Payment}
use Rattle.tpcc_rows.specs.declared.transactions.refusals.Refusal.{Refusal}
use Rattle.tpcc_rows.specs.declared.transactions.refusals.Refusal.TheVariants.{NoWarehouse, NoDistrict, NoCustomer, Amount, Count, Total}
use Rattle.tpcc_rows.specs.declared.transactions.refusals.Field.TheVariants.{PaymentCount, WarehouseYtd, DistrictYtd, Balance, YtdPayment}
use Rattle.tpcc_rows.specs.declared.transactions.replies.Paid.{Paid}
use Rattle.tpcc_rows.specs.Lists.{updated, first_finding}
use Rattle.tpcc_rows.specs.Ranges.{is_amount_within, is_total, is_balance, is_count}
use Rattle.tpcc_rows.specs.Tables.{Rows, is_warehouse, is_district, is_customer, find_warehouse, find_district, warehouse_at, district_at, no_customer}
use Rattle.tpcc_rows.specs.ChosenCustomer.{chosen_customer}

abbrev pub has_bad_credit : CustomerRow → Bool
has_bad_credit c = bytes_eq c.credit (codes "BC")

-- 2.5.2.2: C_ID, C_D_ID, C_W_ID, D_ID, W_ID and H_AMOUNT, each followed by a space
abbrev pub payment_note : Payment → CustomerRow → List ℕ
payment_note p c =
    decimal c.id ++ 32 ∷ decimal c.district ++ 32 ∷ decimal c.warehouse ++ 32 ∷ decimal p.district ++ 32 ∷ decimal p.warehouse ++ 32 ∷ amount_text p.amount
    ++ 32 ∷ []

-- 2.5.2.2: of a customer with bad credit, C_DATA has the note at its left and is cut to 500 bytes
abbrev pub information_after : Payment → CustomerRow → List ℕ
information_after p c = if has_bad_credit c then take 500 (payment_note p c ++ c.information) else c.information

-- 2.5.2.2: W_YTD and D_YTD rise by H_AMOUNT
abbrev pub paid_warehouse : Payment → WarehouseRow → WarehouseRow
paid_warehouse p w = record w { ytd = w.ytd +ℤ p.amount }

abbrev pub paid_district : Payment → DistrictRow → DistrictRow
paid_district p d = record d { ytd = d.ytd +ℤ p.amount }

-- 2.5.2.2: C_BALANCE falls by H_AMOUNT, C_YTD_PAYMENT rises by it, C_PAYMENT_CNT rises by one
abbrev pub paid_customer : Payment → CustomerRow → CustomerRow
paid_customer p c =
    record c {
      balance = c.balance -ℤ p.amount;
      ytd_payment = c.ytd_payment +ℤ p.amount;
      payment_count = c.payment_count + 1;
      information = information_after p c;
    }

-- 2.5.2.2: H_DATA is W_NAME and D_NAME with four spaces between them
abbrev pub history_from : Payment → WarehouseRow → DistrictRow → CustomerRow → HistoryRow
history_from p w d c =
    record {
      customer = c.id;
      customer_district = c.district;
      customer_warehouse = c.warehouse;
      district = p.district;
      warehouse = p.warehouse;
      date = p.moment;
      amount = p.amount;
      information = w.name ++ codes "    " ++ d.name;
    }

abbrev pub payment_history : Rows → Payment → CustomerRow → HistoryRow
payment_history rows p c = history_from p (warehouse_at rows p.warehouse) (district_at rows p.warehouse p.district) c

-- the payment's customer; each caller has seen that there is one
abbrev pub paying_customer : Rows → Payment → CustomerRow
paying_customer rows p = unwrap_or (chosen_customer rows p.customer_warehouse p.customer_district p.who) no_customer

-- 2.5.2.2: one warehouse, one district and one customer are changed, and one HISTORY row is appended
unfoldable pub after_payment : Rows → Payment → Rows
after_payment rows p =
    let c = paying_customer rows p in
    record rows {
      warehouses = updated (is_warehouse p.warehouse) (paid_warehouse p) rows.warehouses;
      districts = updated (is_district p.warehouse p.district) (paid_district p) rows.districts;
      customers = updated (is_customer c.warehouse c.district c.id) (paid_customer p) rows.customers;
      histories = rows.histories ++ payment_history rows p c ∷ [];
    }

-- 2.5.3.3: what the terminal shows of the three rows after the payment, with that part of C_DATA
abbrev pub reply_from : Payment → WarehouseRow → DistrictRow → CustomerRow → Option (List ℕ) → Paid
reply_from p w d c information =
    record {
      warehouse = p.warehouse;
      district = p.district;
      customer_warehouse = p.customer_warehouse;
      customer_district = p.customer_district;
      customer = c.id;
      amount = p.amount;
      date = p.moment;
      warehouse_address = w.address;
      district_address = d.address;
      first = c.first;
      middle = c.middle;
      last = c.last;
      customer_address = c.address;
      phone = c.phone;
      since = c.since;
      credit = c.credit;
      credit_limit = c.credit_limit;
      discount = c.discount;
      balance = c.balance;
      information = information;
    }

-- 2.5.3.3: of a customer with bad credit the first 200 bytes of C_DATA
unfoldable pub payment_reply : Rows → Payment → Paid
payment_reply rows p =
    let c = paid_customer p (paying_customer rows p) in
    reply_from p (warehouse_at rows p.warehouse) (district_at rows p.warehouse p.district) c (if has_bad_credit c then Some (take 200 c.information) else None)

-- 2.5.1.3: the tests of the amount, and of what it makes of the three rows
abbrev pub payment_range_tests : WarehouseRow → DistrictRow → CustomerRow → ℤ → List (Bool × Refusal)
payment_range_tests w d c amount =
    (not (is_amount_within LEAST_PAYMENT GREATEST_PAYMENT amount), Amount)
    ∷ (not (is_count (c.payment_count + 1)), Count PaymentCount)
    ∷ (not (is_total (w.ytd +ℤ amount)), Total WarehouseYtd)
    ∷ (not (is_total (d.ytd +ℤ amount)), Total DistrictYtd)
    ∷ (not (is_balance (c.balance -ℤ amount)), Total Balance)
    ∷ (not (is_total (c.ytd_payment +ℤ amount)), Total YtdPayment)
    ∷ []

-- 2.5.1.2, 2.5.1.3: why a payment is refused: the first test that is true
unfoldable pub payment_tests : Rows → Payment → List (Bool × Refusal)
payment_tests rows p =
    (is_none (find_warehouse rows p.warehouse) || is_none (find_warehouse rows p.customer_warehouse), NoWarehouse)
    ∷ (is_none (find_district rows p.warehouse p.district) || is_none (find_district rows p.customer_warehouse p.customer_district), NoDistrict)
    ∷ (is_none (chosen_customer rows p.customer_warehouse p.customer_district p.who), NoCustomer)
    ∷ payment_range_tests (warehouse_at rows p.warehouse) (district_at rows p.warehouse p.district) (paying_customer rows p) p.amount

abbrev pub payment_refusal : Rows → Payment → Option Refusal
payment_refusal rows p = first_finding (payment_tests rows p)
