-- What a prepared payment is, and what is made of the rows that it names.
use Rattle.std.specs.Prelude.{◌≡◌, Some}
use Rattle.tpcc_rows.specs.declared.transactions.requests.Payment.{Payment}
use Rattle.tpcc_rows.specs.Tables.{Rows, find_customer}
use Rattle.tpcc_rows.specs.Payment.{paying_customer}
use Rattle.tpcc_payment.specs.declared.transaction.PreparedPayment.{PreparedPayment}

-- the key that was found is the paying customer's
abbrev pub IsPrepared : Rows → Payment → PreparedPayment → Type 0
IsPrepared rows payment prepared =
    find_customer rows prepared.customer.warehouse prepared.customer.district prepared.customer.customer ≡ Some (paying_customer rows payment)
