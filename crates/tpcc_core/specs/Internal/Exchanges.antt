-- What goes between a mailbox and a hand.
use Rattle.std.specs.Prelude.{ℕ, ◌≡◌}
use Rattle.tpcc_book.specs.AnswerView.{AnswerView}
use Rattle.tpcc_core.specs.declared.mailbox.Hand.{Hand}
use Rattle.tpcc_core.specs.declared.mailbox.Hand.TheVariants as hand
use Rattle.tpcc_core.specs.declared.mailbox.Mailbox.TheVariants as box
use Rattle.tpcc_core.specs.declared.mailbox.Letter.{Letter}
use Rattle.tpcc_core.specs.Seats.{SeatNow}
use Rattle.tpcc_core.specs.Internal.SeatSteps.{IsTakenFrom}
use Rattle.tpcc_core.specs.Internal.Hands.{IsGiven}

-- the letter of a posted mailbox is in a hand
pub record IsHanded {P : Type 0} (seat : SeatNow P) (held : Hand P) (server terminal : ℕ) (after : SeatNow P) (holds : Hand P) : Type 0 where
  pub letter : Letter P
  pub taken : IsTakenFrom seat server letter after
  pub held_is : holds ≡ hand.Holds terminal letter

-- the answer in a hand is in its mailbox
pub record IsReturned {P : Type 0} (seat : SeatNow P) (held : Hand P) (after : SeatNow P) (holds : Hand P) : Type 0 where
  pub answer : AnswerView P
  pub given : IsGiven held answer holds
  pub after_is : after ≡ record seat { mailbox = box.Answered answer }
