-- 2.7.4: the queue after a run, and the tests of a customer who is charged.
use Rattle.std.specs.Prelude.{ℕ, ◌+◌, ◌+ℤ◌, ℤ, Bool, not, List, [], ◌∷◌}
use Rattle.tpcc_rows.specs.declared.transactions.requests.QueuedTicket.{QueuedTicket}
use Rattle.tpcc_rows.specs.declared.transactions.refusals.Refusal.{Refusal}
use Rattle.tpcc_rows.specs.declared.transactions.refusals.Refusal.TheVariants.{Count, Total}
use Rattle.tpcc_rows.specs.declared.transactions.refusals.Field.TheVariants.{DeliveryCount, Balance}
use Rattle.tpcc_rows.specs.Delivery.{queue_after_run}
use Rattle.tpcc_rows.specs.Ranges.{is_balance, is_count}

-- the queue after a run of its first ticket, if it has one
abbrev pub queue_after_first : List QueuedTicket → List QueuedTicket
queue_after_first [] = []
queue_after_first (q ∷ queue) = queue_after_run q queue

-- the tests of a customer who is charged an amount, of the columns themselves
unfoldable pub charge_tests : ℤ → ℕ → ℤ → List (Bool × Refusal)
charge_tests balance count amount =
    (not (is_count (count + 1)), Count DeliveryCount) ∷ (not (is_balance (balance +ℤ amount)), Total Balance) ∷ []
