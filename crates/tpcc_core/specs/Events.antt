-- The six events: when each is ready, and what it does to a desk.
use Rattle.std.specs.Prelude.{ℕ, ◌≡◌, Bool, true, false, ◌&&◌, List, length, slice_get, slice_set, Option, Some, None}
use Rattle.tpcc_rows.specs.declared.transactions.requests.Request.{Request}
use Rattle.tpcc_book.specs.Purses.{PurseView}
use Rattle.tpcc_book.specs.AnswerView.{AnswerView}
use Rattle.tpcc_core.specs.declared.event.Event.{Event}
use Rattle.tpcc_core.specs.declared.event.Event.TheVariants as event
use Rattle.tpcc_core.specs.declared.mailbox.Hand.{Hand}
use Rattle.tpcc_core.specs.declared.mailbox.Hand.TheVariants as hand
use Rattle.tpcc_core.specs.declared.mailbox.Mailbox.TheVariants as box
use Rattle.tpcc_core.specs.declared.mailbox.Letter.{Letter}
use Rattle.tpcc_core.specs.Seats.{SeatNow, is_free, is_posted, is_taken, is_answered}
use Rattle.tpcc_core.specs.SeatSteps.{mailbox_after_post, seat_after_collect}
use Rattle.tpcc_core.specs.Hands.{is_empty, holds_letter, answer_for, Serves}
use Rattle.tpcc_core.specs.Desks.{DeskNow, place_of, item_in, map_or}

-- what has this number is so; nothing that is not there is
abbrev pub tests_in : {X : Type 0} → (X → Bool) → List X → Option ℕ → Bool
tests_in test xs place = map_or false test (item_in xs place)

abbrev pub tests_at : {X : Type 0} → (X → Bool) → List X → ℕ → Bool
tests_at test xs number = tests_in test xs (place_of number (length xs))

abbrev pub can_post : DeskNow → ℕ → Bool
can_post d terminal = tests_at (λ seat. is_free seat.mailbox) d.seats terminal

abbrev pub can_take : DeskNow → ℕ → ℕ → Bool
can_take d server terminal = tests_at is_empty d.hands server && tests_at (λ seat. is_posted seat.mailbox) d.seats terminal

abbrev pub can_serve : DeskNow → ℕ → Bool
can_serve d server = tests_at holds_letter d.hands server

-- the place of the seat that the answer in a hand belongs to
abbrev pub place_in : {X : Type 0} → List X → Option ℕ → Option ℕ
place_in seats None = None
place_in seats (Some terminal) = place_of terminal (length seats)

abbrev pub answer_place : {P : Type 0} → Hand P → List (SeatNow P) → Option ℕ
answer_place h seats = place_in seats (answer_for h)

-- the hand holds an answer, and the letter's mailbox is still taken
abbrev pub can_answer : DeskNow → ℕ → Bool
can_answer d server = tests_at (λ h. tests_in (λ seat. is_taken seat.mailbox) d.seats (answer_place h d.seats)) d.hands server

abbrev pub can_collect : DeskNow → ℕ → Bool
can_collect d terminal = tests_at (λ seat. is_answered seat.mailbox) d.seats terminal

-- what has this number, and another in its place
pub record IsChangedAt {X : Type 0} (old : List X) (number : ℕ) (was is : X) (new : List X) : Type 0 where
  pub place : ℕ
  pub numbered : place_of number (length old) ≡ Some place
  pub found : slice_get old place ≡ Some was
  pub set : new ≡ slice_set old place is

-- Post: the terminal's mailbox is free, and gets its purse with the request
pub record IsPostedAt (old : DeskNow) (terminal : ℕ) (request : Request) (new : DeskNow) : Type 0 where
  pub seat : SeatNow PurseView
  pub seats : IsChangedAt old.seats terminal seat (record seat { mailbox = mailbox_after_post seat.mailbox request }) new.seats
  pub ready : is_free seat.mailbox ≡ true
  pub rest : new ≡ record old { seats = new.seats }

-- Take: the letter goes from the terminal's mailbox into the server's empty hand
pub record IsTakenAt (old : DeskNow) (server terminal : ℕ) (new : DeskNow) : Type 0 where
  pub seat : SeatNow PurseView
  pub letter : Letter PurseView
  pub ready : seat.mailbox ≡ box.Posted letter
  pub seats : IsChangedAt old.seats terminal seat (record seat { mailbox = box.Taken server }) new.seats
  pub hands : IsChangedAt old.hands server hand.Empty (hand.Holds terminal letter) new.hands
  pub rest : new ≡ record old { seats = new.seats; hands = new.hands }

-- Serve: the book serves the letter in the server's hand, which then holds its answer
pub record IsServedBy (old : DeskNow) (server : ℕ) (new : DeskNow) : Type 0 where
  pub held : Hand PurseView
  pub holds : Hand PurseView
  pub served : Serves held old.book holds new.book
  pub hands : IsChangedAt old.hands server held holds new.hands
  pub rest : new ≡ record old { book = new.book; hands = new.hands }

-- Answer: the answer goes from the server's hand into the letter's mailbox
pub record IsAnsweredBy (old : DeskNow) (server : ℕ) (new : DeskNow) : Type 0 where
  pub terminal : ℕ
  pub answer : AnswerView PurseView
  pub seat : SeatNow PurseView
  pub ready : is_taken seat.mailbox ≡ true
  pub seats : IsChangedAt old.seats terminal seat (record seat { mailbox = box.Answered answer }) new.seats
  pub hands : IsChangedAt old.hands server (hand.Served terminal answer) hand.Empty new.hands
  pub rest : new ≡ record old { seats = new.seats; hands = new.hands }

-- Collect: the terminal has its purse and its answer
pub record IsCollectedAt (old : DeskNow) (terminal : ℕ) (new : DeskNow) : Type 0 where
  pub seat : SeatNow PurseView
  pub ready : is_answered seat.mailbox ≡ true
  pub seats : IsChangedAt old.seats terminal seat (seat_after_collect seat) new.seats
  pub rest : new ≡ record old { seats = new.seats }

-- when an event is ready
abbrev pub is_ready : DeskNow → Event → Bool
is_ready d (event.Post terminal request) = can_post d terminal
is_ready d (event.Take server terminal) = can_take d server terminal
is_ready d (event.Serve server) = can_serve d server
is_ready d (event.Answer server) = can_answer d server
is_ready d (event.Collect terminal) = can_collect d terminal
is_ready d event.Close = true

-- what a ready event does; Close raises the flag and does nothing else
abbrev pub Steps : DeskNow → Event → DeskNow → Type 0
Steps old (event.Post terminal request) new = IsPostedAt old terminal request new
Steps old (event.Take server terminal) new = IsTakenAt old server terminal new
Steps old (event.Serve server) new = IsServedBy old server new
Steps old (event.Answer server) new = IsAnsweredBy old server new
Steps old (event.Collect terminal) new = IsCollectedAt old terminal new
Steps old event.Close new = new ≡ record old { closed = true }

abbrev pub is_post : Event → Bool
is_post (event.Post terminal request) = true
is_post (event.Take server terminal) = false
is_post (event.Serve server) = false
is_post (event.Answer server) = false
is_post (event.Collect terminal) = false
is_post event.Close = false
