-- What a script's calls print, and the book that they leave.
use Rattle.std.specs.Prelude.{ℕ, List, [], ◌∷◌, ◌++◌, Option, Some, None}
use Rattle.tpcc_rows.specs.declared.transactions.requests.Request.{Request}
use Rattle.tpcc_rows.specs.declared.transactions.refusals.Refusal.{Refusal}
use Rattle.tpcc_rows.specs.declared.transactions.entry.Entry.{Entry}
use Rattle.tpcc_population.specs.declared.opening.Opening.{Opening}
use Rattle.tpcc_rows.specs.Conditions.{first_broken}
use Rattle.tpcc_rows.specs.Tables.{State}
use Rattle.tpcc_rows.specs.Turn.{state_after, reply_to}
use Rattle.tpcc_book.specs.Turn.{turn_refusal}
use Rattle.tpcc_rows.specs.Replay.{count_of, results_of}
use Rattle.tpcc_text.specs.Screens.{reply_screen, refused_screen, check_screen, results_screen}
use Rattle.tpcc_text.specs.declared.script.call.Call.{Call}
use Rattle.tpcc_text.specs.declared.script.call.Call.TheVariants.{Ask, Check, Results}

-- the opening, the state and the journal that led from the one to the other
pub record ScriptBook : Type 0 where
  pub opening : Opening
  pub state : State
  pub journal : List Entry

-- the terminal of a script's requests
abbrev pub terminal : ℕ
terminal = 1

-- why a request is refused, want of memory aside: the purse has made each entry of its terminal
abbrev pub request_refusal : ScriptBook → Request → Option Refusal
request_refusal b request = turn_refusal b.state b.journal terminal (count_of terminal b.journal) request

-- the book after a request that is not refused: one transaction and one entry
abbrev pub book_with_entry : ScriptBook → Request → ScriptBook
book_with_entry b request = record {
  opening = b.opening;
  state = state_after b.state request;
  journal = b.journal ++ record { terminal = terminal; number = count_of terminal b.journal; request = request; reply = reply_to b.state request } ∷ [];
}

-- the same of a call; a check and the results are never refused
abbrev pub call_refusal : ScriptBook → Call → Option Refusal
call_refusal b (Ask request) = request_refusal b request
call_refusal b Check = None
call_refusal b Results = None

-- a request's screen and the book after it
abbrev pub screen_by : ScriptBook → Request → Option Refusal → List ℕ
screen_by b request None = reply_screen (reply_to b.state request)
screen_by b request (Some r) = refused_screen r

abbrev pub book_by : ScriptBook → Request → Option Refusal → ScriptBook
book_by b request None = book_with_entry b request
book_by b request (Some r) = b

-- a call's screen at a book
unfoldable pub screen_of : ScriptBook → Call → List ℕ
screen_of b (Ask request) = screen_by b request (request_refusal b request)
screen_of b Check = check_screen (first_broken b.state.rows)
screen_of b Results = results_screen (results_of b.journal)

-- the book after a call
unfoldable pub book_after : ScriptBook → Call → ScriptBook
book_after b (Ask request) = book_by b request (request_refusal b request)
book_after b Check = b
book_after b Results = b

-- the screens of calls, each at the book that those before it left
abbrev pub screens_of : ScriptBook → List Call → List ℕ
screens_of b [] = []
screens_of b (call ∷ calls) = screen_of b call ++ screens_of (book_after b call) calls

-- and the book that they leave
abbrev pub books_after : ScriptBook → List Call → ScriptBook
books_after b [] = b
books_after b (call ∷ calls) = books_after (book_after b call) calls
