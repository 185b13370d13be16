-- What the steps of a turn ask and tell.
use Rattle.std.specs.Prelude.{ℕ, ◌≡◌, ◌+◌, ◌<◌, ◌%◌, ◌^◌, List, [], ◌∷◌, Option, Some}
use mathlib.Core.List.{IsPrefix}
use Rattle.atomic_table.specs.Table.{Me}
use Rattle.tpcc_rows.specs.declared.transactions.entry.Entry.{Entry}
use Rattle.tpcc_rows.specs.declared.transactions.requests.Request.{Request}
use Rattle.tpcc_book.specs.AnswerView.{AnswerView}
use Rattle.tpcc_book.specs.Past.{Past, IsKept}
use Rattle.tpcc_book.specs.Purses.{PurseView}
use Rattle.tpcc_book.specs.Serve.{IsServed}
use Rattle.tpcc_turns.specs.Knows.{Knows, Out, Holds}
use Rattle.tpcc_turns.specs.Knows.{knows}

-- a ticket was drawn
pub record HasDrawn (me : Me (Option Past) Knows) (found : ℕ) (now : Me (Option Past) Knows) : Type 0 where
  pub ticket : ℕ
  pub found_is : found ≡ ticket % 2 ^ 64
  pub now_is : now ≡ (knows me.0.start me.0.front me.0.parts (Out ticket) me.0.told, me.1)

-- the seat has this ticket
pub record Awaits (me : Me (Option Past) Knows) (ticket : ℕ) : Type 0 where
  pub number : ℕ
  pub stage : me.0.stage ≡ Out number
  pub ticket_is : ticket ≡ number % 2 ^ 64

-- the seat has the book, whose journal begins with the one that it was taken with
pub record CanEnd (me : Me (Option Past) Knows) (next : ℕ) : Type 0 where
  pub number : ℕ
  pub base : List Entry
  pub book : Past
  pub stage : me.0.stage ≡ Holds number base
  pub slot : me.1 ≡ (0, Some book) ∷ []
  pub longer : IsPrefix base book.entries
  pub opening : book.opening ≡ me.0.start
  pub next_is : next ≡ (number + 1) % 2 ^ 64

-- the turn of this ticket has come, and the book is in the seat's slot
pub record HasTaken (me : Me (Option Past) Knows) (ticket : ℕ) (now : Me (Option Past) Knows) : Type 0 where
  pub number : ℕ
  pub book : Past
  pub ticket_is : ticket ≡ number % 2 ^ 64
  pub now_is : now ≡ (knows me.0.start book.entries me.0.parts (Holds number book.entries) me.0.told, (0, Some book) ∷ [])
  pub begins : IsPrefix me.0.front book.entries
  pub opening : book.opening ≡ me.0.start

-- the book in the seat's slot served a request for a purse
pub record HasServedHere (me : Me (Option Past) Knows) (request : Request) (purse : PurseView) (answer : AnswerView PurseView) (now : Me (Option Past) Knows) : Type 0 where
  pub old : Past
  pub new : Past
  pub old_is : me.1 ≡ (0, Some old) ∷ []
  pub served : IsServed old request purse answer new
  pub kept : IsKept new
  pub now_is : now ≡ (me.0, (0, Some new) ∷ [])

-- the seat has the turn, with a book in its slot whose journal begins with the one that the turn was begun with
pub record CanGrow (me : Me (Option Past) Knows) : Type 0 where
  pub number : ℕ
  pub base : List Entry
  pub book : Past
  pub stage : me.0.stage ≡ Holds number base
  pub slot : me.1 ≡ (0, Some book) ∷ []
  pub longer : IsPrefix base book.entries
  pub some_part : 0 < me.0.parts
