-- What a seated purse is seen as.
use Rattle.std.specs.Prelude.{◌≡◌, ◌+◌, List, [], map, Option}
use Rattle.atomic_table.specs.Seated.{TableId}
use Rattle.atomic_table.specs.declared.shared.Seat.{Seat}
use Rattle.tpcc_rows.specs.declared.transactions.entry.Entry.{Entry}
use Rattle.tpcc_book.specs.Purses.{PurseView}
use Rattle.tpcc_turns.specs.Knows.{Knows, Idle}
use mathlib.Core.List.{IsPrefix}
use Rattle.tpcc_rows.specs.declared.transactions.requests.Request.{Request}
use Rattle.std.specs.Result.{ForOk}
use Rattle.tpcc_rows.specs.Replay.{count_of}
use Rattle.tpcc_book.specs.Past.{Past, IsKept}
use Rattle.tpcc_book.specs.AnswerView.{AnswerView}
use Rattle.tpcc_turns.specs.Knows.{knows}
use Rattle.tpcc_book.specs.Serve.{IsServed}
use Rattle.tpcc_population.specs.declared.opening.Opening.{Opening}

abbrev pub no_table : TableId
no_table =
    record { words = 0; slots = 0; views_name = 0; atom = 0; block = 0; offset = 0; slot_names = [] }

-- a purse, and the entries that it has seen
pub record SeatedView : Type 0 where
  pub purse : PurseView
  pub start : Opening
  pub front : List Entry

-- a purse on a seat that has no ticket
abbrev pub seated_at : PurseView → Seat (Option Past) Knows → SeatedView
seated_at purse seat = record { purse = purse; start = seat.me.0.start; front = seat.me.0.front }

-- the seat is at this table, has no ticket, and has as many parts as the purse
abbrev pub CanSeat : TableId → Seat (Option Past) Knows → PurseView → Type 0
CanSeat table seat purse =
    (seat.table_id ≡ table) × (seat.me ≡ (knows seat.me.0.start seat.me.0.front (purse.room + 1) Idle [], []))

-- the purses without their seats
abbrev pub purses_of : List SeatedView → List PurseView
purses_of = map (λ p. p.purse)

-- turns that have no name yet
pub record UnnamedView : Type 0 where
  pub opening : Opening
  pub table : TableId

-- who keeps a turn: the purse, and the opening of its book
pub record Keeper : Type 0 where
  pub purse : PurseView
  pub start : Opening

abbrev pub keeper_of : SeatedView → Keeper
keeper_of p = record { purse = p.purse; start = p.start }

-- an answer with the purse alone
abbrev pub by_purse : AnswerView SeatedView → AnswerView PurseView
by_purse answer =
    record { request = answer.request; outcome = answer.outcome; place = answer.place; purse = answer.purse.purse }

-- one turn of the book at a journal that begins with all that the purse had seen; afterwards the purse
-- has seen all of it, which is faithful, and of its terminal's entries has those that the purse made
pub record IsTurned (request : Request) (purse : SeatedView) (answer : AnswerView SeatedView) : Type 0 where
  pub old : Past
  pub new : Past
  pub opening : old.opening ≡ purse.start
  pub begins : IsPrefix purse.front old.entries
  pub seen : answer.purse.front ≡ new.entries
  pub kept : IsKept new
  pub own : ForOk answer.outcome (λ reply. count_of answer.purse.purse.terminal answer.purse.front ≡ answer.purse.purse.entries)
  pub start : answer.purse.start ≡ purse.start
  pub served : IsServed old request purse.purse (by_purse answer) new
