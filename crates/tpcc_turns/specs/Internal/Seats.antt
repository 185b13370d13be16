-- How seats of the turns are seen, with their tickets.
use Rattle.std.specs.Prelude.{ℕ, ◌≡◌, ◌+◌, ◌%◌, ◌^◌, List, [], ◌∷◌, Option, Some}
use Rattle.atomic_table.specs.Seated.{TableId}
use Rattle.atomic_table.specs.Table.{Me}
use Rattle.atomic_table.specs.declared.shared.Seat.{Seat}
use Rattle.tpcc_rows.specs.declared.transactions.entry.Entry.{Entry}
use Rattle.tpcc_book.specs.Purses.{PurseView, first_purse}
use Rattle.tpcc_turns.specs.Knows.{Knows, Stage, Idle, Out, Holds}
use Rattle.tpcc_book.specs.Past.{Past}
use Rattle.tpcc_turns.specs.Knows.{knows}
use Rattle.tpcc_turns.specs.Internal.TurnRule.{no_opening, first}
use Rattle.tpcc_population.specs.declared.opening.Opening.{Opening}
use Rattle.tpcc_turns.specs.Seats.{SeatedView}

-- what a purse's seat knows between its turns
abbrev pub view_of : SeatedView → Knows
view_of p = knows p.start p.front (p.purse.room + 1) Idle []

abbrev pub number_of : Stage → ℕ
number_of Idle = 0
number_of (Out t) = t
number_of (Holds t base) = t

-- a seat with so many parts that has the turn, and this book in its slot
abbrev pub turn_holder : Me (Option Past) Knows → ℕ → Past → Me (Option Past) Knows
turn_holder me parts book =
    (knows me.0.start book.entries parts (Holds (number_of me.0.stage) book.entries) [], (0, Some book) ∷ [])

-- the table of turns of this name: two words, and the book's slot
pub record IsTurnTable (name table : TableId) : Type 0 where
  pub named : table ≡ name
  pub words : table.words ≡ 2
  pub slots : table.slots ≡ 1

-- a turn that is kept: the seat of so many parts is at this table and has the turn of the ticket, with a book in its slot
pub record IsHeldTurn (table : TableId) (seat : Seat (Option Past) Knows) (parts ticket : ℕ) : Type 0 where
  pub book : Past
  pub placed : seat.table_id ≡ table
  pub holds : seat.me ≡ turn_holder seat.me parts book
  pub numbered : ticket ≡ number_of seat.me.0.stage % 2 ^ 64
  pub opened : book.opening ≡ seat.me.0.start

-- turns before they have a name: the first seat and the first purse are at hand
pub record IsUnnamed (table : TableId) (opening : Opening) (seat : Seat (Option Past) Knows) (purse : PurseView) : Type 0 where
  pub placed : seat.table_id ≡ table
  pub words : table.words ≡ 2
  pub slots : table.slots ≡ 1
  pub seated : seat.me ≡ (first opening, [])
  pub whole : purse ≡ first_purse

abbrev pub front_of : List Knows → List Entry
front_of [] = []
front_of (v ∷ vs) = v.front

abbrev pub start_of : List Knows → Opening
start_of [] = no_opening
start_of (v ∷ vs) = v.start
