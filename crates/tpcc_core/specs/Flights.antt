-- Where the letters and answers of the terminals are.
use Rattle.std.specs.Prelude.{ℕ, ◌≡◌, ◌↔◌, List, [], ◌∷◌, Option, Some, None}
use Rattle.tpcc_rows.specs.declared.transactions.requests.Request.{Request}
use Rattle.tpcc_book.specs.Purses.{PurseView}
use Rattle.tpcc_core.specs.declared.mailbox.Hand.{Hand}
use Rattle.tpcc_core.specs.declared.mailbox.Hand.TheVariants as hand
use Rattle.tpcc_core.specs.declared.mailbox.Mailbox.{Mailbox}
use Rattle.tpcc_core.specs.declared.mailbox.Mailbox.TheVariants as box
use Rattle.tpcc_core.specs.Seats.{SeatNow}
use Rattle.tpcc_core.specs.Desks.{DeskNow, item, map_or}

-- the terminal whose letter or answer is in a hand
abbrev pub held_for : {P : Type 0} → Hand P → Option ℕ
held_for hand.Empty = None
held_for (hand.Holds terminal letter) = Some terminal
held_for (hand.Served terminal answer) = Some terminal

-- the server that took a mailbox's letter and did not answer yet
abbrev pub taken_by : {P : Type 0} → Mailbox P → Option ℕ
taken_by (box.Free purse) = None
taken_by (box.Posted letter) = None
taken_by (box.Taken server) = Some server
taken_by (box.Answered answer) = None

-- each letter or answer is in one place alone: a server's hand has that of a terminal exactly where the terminal's mailbox was taken by it
abbrev pub AreApart : {P : Type 0} → List (Hand P) → List (SeatNow P) → Type 0
AreApart hands seats =
    (server terminal : ℕ) → (map_or None held_for (item hands server) ≡ Some terminal) ↔ (map_or None (λ seat. taken_by seat.mailbox) (item seats terminal) ≡ Some server)

abbrev pub IsOrdered : DeskNow → Type 0
IsOrdered d = AreApart d.hands d.seats

-- what a server's hand holds, as if it were still in the mailbox
abbrev pub mailbox_of_hand : {P : Type 0} → ℕ → Hand P → Mailbox P
mailbox_of_hand server hand.Empty = box.Taken server
mailbox_of_hand server (hand.Holds terminal letter) = box.Posted letter
mailbox_of_hand server (hand.Served terminal answer) = box.Answered answer

abbrev pub brought_back : {P : Type 0} → List (Hand P) → Mailbox P → Mailbox P
brought_back hands (box.Free purse) = box.Free purse
brought_back hands (box.Posted letter) = box.Posted letter
brought_back hands (box.Taken server) = map_or (box.Taken server) (mailbox_of_hand server) (item hands server)
brought_back hands (box.Answered answer) = box.Answered answer

-- what a terminal has under way, in its mailbox or in a hand: a letter not served yet, an answer not collected yet, or nothing but its purse
abbrev pub under_way : DeskNow → ℕ → Mailbox PurseView
under_way d terminal = map_or (box.Taken 0) (λ seat. brought_back d.hands seat.mailbox) (item d.seats terminal)

-- the request that is not served yet
abbrev pub unserved_request : {P : Type 0} → Mailbox P → List Request
unserved_request (box.Free purse) = []
unserved_request (box.Posted letter) = letter.request ∷ []
unserved_request (box.Taken server) = []
unserved_request (box.Answered answer) = []
