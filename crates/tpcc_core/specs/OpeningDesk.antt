-- The desk of an opening.
use Rattle.std.specs.Prelude.{ℕ, zero, suc, ◌-◌, pos, false, List, [], ◌∷◌, ◌++◌}
use Rattle.tpcc_population.specs.declared.opening.Opening.{Opening}
use Rattle.tpcc_book.specs.Past.{opening_past}
use Rattle.tpcc_book.specs.Purses.{PurseView, most_purses}
use Rattle.tpcc_core.specs.declared.mailbox.Hand.{Hand}
use Rattle.tpcc_core.specs.declared.mailbox.Hand.TheVariants as hand
use Rattle.tpcc_core.specs.declared.mailbox.Mailbox.TheVariants as box
use Rattle.tpcc_core.specs.Seats.{SeatNow}
use Rattle.tpcc_core.specs.Desks.{DeskNow}

-- the seat of a terminal with an empty purse, which has collected nothing
abbrev pub seat_of : ℕ → SeatNow PurseView
seat_of terminal = record { mailbox = box.Free (record { terminal = terminal; entries = 0; paid = pos 0; room = 0 }); collected = [] }

-- the seats of the terminals from 1 on
abbrev pub seats_of : ℕ → List (SeatNow PurseView)
seats_of zero = []
seats_of (suc k) = seats_of k ++ seat_of (suc k) ∷ []

abbrev pub hands_of : {P : Type 0} → ℕ → List (Hand P)
hands_of zero = []
hands_of (suc k) = hands_of k ++ hand.Empty ∷ []

-- the book of the opening, and every terminal with an empty purse; the first purse keeps the rest of the room
abbrev pub opening_desk : Opening → ℕ → ℕ → DeskNow
opening_desk opening terminals servers =
    record {
      book = opening_past opening;
      first = record { terminal = 0; entries = 0; paid = pos 0; room = most_purses - terminals };
      seats = seats_of terminals;
      hands = hands_of servers;
      closed = false;
    }
