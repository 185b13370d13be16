-- One turn of a register: the request of a terminal that has made so many entries.
use Rattle.std.specs.Prelude.{ℕ, ◌≡◌, ◌==◌, ◌<◌, ◌^◌, List, [], ◌∷◌, ◌++◌, length, nat_lt, if◌then◌else◌, Option, Some, None}
use Rattle.std.specs.Result.{ForOk, ForErr}
use Rattle.std.specs.Option.{option_or}
use denote.Ref.{MutBor}
use Rattle.tpcc_rows.specs.declared.transactions.entry.Entry.{Entry}
use Rattle.tpcc_rows.specs.declared.transactions.requests.Request.{Request}
use Rattle.tpcc_rows.specs.declared.transactions.replies.Reply.{Reply}
use Rattle.tpcc_rows.specs.declared.transactions.refusals.Refusal.{Refusal}
use Rattle.tpcc_rows.specs.declared.transactions.refusals.Refusal.TheVariants.{Stranger, JournalFull, NoMemory}
use Rattle.tpcc_rows.specs.RefusalOrder.{refusal_number}
use Rattle.tpcc_rows.specs.Replay.{count_of}
use Rattle.tpcc_rows.specs.Tables.{State}
use Rattle.tpcc_rows.specs.Turn.{refusal, state_after, reply_to}
use Rattle.tpcc_book.specs.Past.{Past, most_entries}
use Rattle.tpcc_book.specs.declared.register.outcome.Turned.{Turned}

-- the refusals 1 to 9, which are tested before purse and journal
abbrev pub early : Option Refusal → Option Refusal
early None = None
early (Some r) = if nat_lt (refusal_number r) 10 then Some r else None

-- the journal holds another number of the terminal's entries than it made
abbrev pub stranger : List Entry → ℕ → ℕ → Option Refusal
stranger entries terminal number =
    if count_of terminal entries == number then None else Some (Stranger (count_of terminal entries))

abbrev pub full : List Entry → Option Refusal
full entries = if nat_lt (length entries) most_entries then None else Some JournalFull

-- the refusals 10 and 11, of purse and journal
abbrev pub journal_refusal : List Entry → ℕ → ℕ → Option Refusal
journal_refusal entries terminal number = option_or (stranger entries terminal number) (full entries)

-- the first refusal that applies, want of memory aside
unfoldable pub turn_refusal : State → List Entry → ℕ → ℕ → Request → Option Refusal
turn_refusal s entries terminal number request =
    let first = refusal s request in
    option_or (early first) (option_or (journal_refusal entries terminal number) first)

-- the entry that a turn makes
abbrev pub entry_of : Past → ℕ → ℕ → Request → Entry
entry_of p terminal number request =
    record { terminal = terminal; number = number; request = request; reply = reply_to p.state request }

-- what a register is after a turn that nothing refuses
abbrev pub after : Past → ℕ → ℕ → Request → Past
after p terminal number request =
    record {
      opening = p.opening;
      state = state_after p.state request;
      entries = p.entries ++ entry_of p terminal number request ∷ [];
    }

pub record Accepts (old : Past) (terminal number : ℕ) (request : Request) (place : Option ℕ) (new : Past) (reply : Reply) : Type 0 where
  pub none_applies : turn_refusal old.state old.entries terminal number request ≡ None
  pub reply_is : reply ≡ reply_to old.state request
  pub place_is : place ≡ Some (length old.entries)
  pub new_is : new ≡ after old terminal number request

pub record Refuses (old : Past) (terminal number : ℕ) (request : Request) (place : Option ℕ) (new : Past) (r : Refusal) : Type 0 where
  pub first : option_or (turn_refusal old.state old.entries terminal number request) (Some NoMemory) ≡ Some r
  pub no_place : place ≡ None
  pub same : new ≡ old

-- a turn: the request that nothing refuses, with its entry; or the first refusal, and nothing changes
pub record IsTurn (old : Past) (terminal number : ℕ) (request : Request) (made : Turned) (new : Past) : Type 0 where
  pub request_is : made.request ≡ request
  pub accepts : ForOk made.outcome (Accepts old terminal number request made.place new)
  pub refuses : ForErr made.outcome (Refuses old terminal number request made.place new)

-- a call of a turn's form may be made on every register,
abbrev pub TakesTurn : (MutBor Past → Request → ℕ → ℕ → Type 0) → Type 0
TakesTurn pre =
    (register : MutBor Past) (request : Request) (terminal number : ℕ) → pre register request terminal number

-- and each call is a turn
abbrev pub MakesTurn : (MutBor Past → Request → ℕ → ℕ → Turned → MutBor Past → Type 0) → Type 0
MakesTurn post =
    (register : MutBor Past) (request : Request) (terminal number : ℕ) (made : Turned) (left : MutBor Past)
    → terminal < 2 ^ 32 → number < 2 ^ 64 → post register request terminal number made left → IsTurn register.now terminal number request made left.now
