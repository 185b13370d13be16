-- What a queue of deliveries is seen as.
use Rattle.std.specs.Prelude.{ℕ, List}
use Rattle.tpcc_rows.specs.declared.transactions.requests.QueuedTicket.{QueuedTicket}

-- the tickets, first come first, and for how many more there is room
pub record QueueView : Type 0 where
  pub tickets : List QueuedTicket
  pub room : ℕ
