-- What a server takes from a terminal's mailbox.
use Rattle.std.specs.Prelude.{ℕ, ◌≡◌}
use Rattle.tpcc_core.specs.declared.mailbox.Mailbox.TheVariants as box
use Rattle.tpcc_core.specs.declared.mailbox.Letter.{Letter}
use Rattle.tpcc_core.specs.Seats.{SeatNow}

-- a server has the letter
pub record IsTakenFrom {P : Type 0} (old : SeatNow P) (server : ℕ) (letter : Letter P) (new : SeatNow P) : Type 0 where
  pub was : old.mailbox ≡ box.Posted letter
  pub is : new ≡ record old { mailbox = box.Taken server }
