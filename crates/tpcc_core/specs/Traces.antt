-- What terminals post, what the book answers them, and what their entries are, along a list of events.
use Rattle.std.specs.Prelude.{ℕ, ◌≡◌, ◌⊎◌, ◌+◌, ◌==◌, List, [], ◌∷◌, ◌++◌, filter, slice_get, if◌then◌else◌, Option, Some, None, Result, Ok, Err, MatchResult}
use Rattle.tpcc_rows.specs.declared.transactions.entry.Entry.{Entry}
use Rattle.tpcc_rows.specs.declared.transactions.requests.Request.{Request}
use Rattle.tpcc_rows.specs.declared.transactions.replies.Reply.{Reply}
use Rattle.tpcc_rows.specs.declared.transactions.refusals.Refusal.{Refusal}
use Rattle.tpcc_book.specs.Purses.{PurseView}
use Rattle.tpcc_core.specs.declared.event.Event.{Event}
use Rattle.tpcc_core.specs.declared.event.Event.TheVariants as event
use Rattle.tpcc_core.specs.declared.mailbox.Collected.{Collected}
use Rattle.tpcc_core.specs.declared.mailbox.Hand.{Hand}
use Rattle.tpcc_core.specs.declared.mailbox.Hand.TheVariants as hand
use Rattle.tpcc_core.specs.SeatSteps.{kept_of}
use Rattle.tpcc_core.specs.Desks.{DeskNow, item, map_or}
use Rattle.tpcc_core.specs.Events.{is_ready}
use Rattle.tpcc_core.specs.Runs.{Passes}

-- the request of a terminal's post
abbrev pub asked_by : ℕ → Event → List Request
asked_by t (event.Post terminal request) = if terminal == t then request ∷ [] else []
asked_by t (event.Take server terminal) = []
asked_by t (event.Serve server) = []
asked_by t (event.Answer server) = []
asked_by t (event.Collect terminal) = []
asked_by t event.Close = []

-- the answer to a terminal that a hand holds
abbrev pub answer_in : ℕ → Hand PurseView → List Collected
answer_in t hand.Empty = []
answer_in t (hand.Holds terminal letter) = []
answer_in t (hand.Served terminal answer) = if terminal == t then kept_of answer ∷ [] else []

-- what the book answers to a terminal, by the desk after the event
abbrev pub answered_by : ℕ → Event → DeskNow → List Collected
answered_by t (event.Post terminal request) new = []
answered_by t (event.Take server terminal) new = []
answered_by t (event.Serve server) new = map_or [] (answer_in t) (item new.hands server)
answered_by t (event.Answer server) new = []
answered_by t (event.Collect terminal) new = []
answered_by t event.Close new = []

-- the requests of a terminal's ready posts, in posting order
abbrev pub posts_of : ℕ → (old : DeskNow) (events : List Event) (new : DeskNow) → Passes old events new → List Request
posts_of t old [] new passes = []
posts_of t old (e ∷ es) new passes = (if is_ready old e then asked_by t e else []) ++ posts_of t passes.0 es new passes.2

-- its served requests with their outcomes, refusals among them, in the order in which the book served them
abbrev pub served_of : ℕ → (old : DeskNow) (events : List Event) (new : DeskNow) → Passes old events new → List Collected
served_of t old [] new passes = []
served_of t old (e ∷ es) new passes = (if is_ready old e then answered_by t e passes.0 else []) ++ served_of t passes.0 es new passes.2

-- the entries that a terminal's answers stand for, the accepted ones alone, numbered from n on
abbrev pub with_entry : ℕ → ℕ → Request → Result Reply Refusal → (ℕ → List Entry) → List Entry
with_entry t n request (Ok reply) more = record { terminal = t; number = n; request = request; reply = reply } ∷ more (n + 1)
with_entry t n request (Err refusal) more = more n

abbrev pub entries_from : ℕ → ℕ → List Collected → List Entry
entries_from t n [] = []
entries_from t n (c ∷ cs) = with_entry t n c.request c.outcome (λ k. entries_from t k cs)

-- a terminal's entries in a journal
abbrev pub entries_by : ℕ → List Entry → List Entry
entries_by t journal = filter (λ e. e.terminal == t) journal

-- the entry at this place has the terminal's request and its reply
pub record StandsAt (journal : List Entry) (t : ℕ) (request : Request) (reply : Reply) (at : Option ℕ) : Type 0 where
  pub place : ℕ
  pub number : ℕ
  pub place_is : at ≡ Some place
  pub entry_is : slice_get journal place ≡ Some (record { terminal = t; number = number; request = request; reply = reply })

-- an accepted answer has the request and the reply of the journal's entry at its place; a refused one has no place
abbrev pub IsRecorded : List Entry → ℕ → Collected → Type 0
IsRecorded journal t c = MatchResult c.outcome (λ reply. StandsAt journal t c.request reply c.place) (λ refusal. c.place ≡ None)

-- all of a list, or all but its last
abbrev pub IsAllOrAllButLast : {X : Type 0} → List X → List X → Type 0
IsAllOrAllButLast part whole = (whole ≡ part) ⊎ ((last : _) × (whole ≡ part ++ last ∷ []))
