-- The rows that a payment names, and what is made of the customer's.
use Rattle.std.specs.Prelude.{◌≡◌, ◌++◌, List, ℕ, take, Option, Some, None, if◌then◌else◌}
use Rattle.tpcc_rows.specs.declared.tables.rows.CustomerRow.{CustomerRow}
use Rattle.tpcc_rows.specs.declared.transactions.requests.Payment.{Payment}
use Rattle.tpcc_rows.specs.Tables.{Rows, find_warehouse, find_district}
use Rattle.tpcc_rows.specs.ChosenCustomer.{chosen_customer}
use Rattle.tpcc_rows.specs.Payment.{payment_refusal, payment_note, has_bad_credit}
use Rattle.tpcc_payment.specs.declared.payment_rows.PaymentRows.{PaymentRows}

-- the three rows of a payment that nothing refuses
pub record IsNamed (rows : Rows) (payment : Payment) (named : PaymentRows) : Type 0 where
  pub accepted : payment_refusal rows payment ≡ None
  pub warehouse : find_warehouse rows payment.warehouse ≡ Some named.warehouse.now
  pub district : find_district rows payment.warehouse payment.district ≡ Some named.district.now
  pub customer : chosen_customer rows payment.customer_warehouse payment.customer_district payment.who ≡ Some named.customer.now

-- the C_DATA of a customer with bad credit
abbrev pub new_information : Payment → CustomerRow → Option (List ℕ)
new_information p c = if has_bad_credit c then Some (take 500 (payment_note p c ++ c.information)) else None
