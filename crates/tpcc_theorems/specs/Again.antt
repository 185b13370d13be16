-- A journal that is run again as a script.
use Rattle.std.specs.Prelude.{◌≡◌, ◌⊎◌, ⊤, ℕ, ◌≤◌, true, List, ◌∷◌, ◌++◌, length, map, Option, None, Result, Ok, Err}
use Rattle.std.specs.Io.KnownBytes.{Appends}
use Rattle.std.specs.List.{list_all}
use Rattle.tpcc_rows.specs.declared.transactions.requests.Request.{Request}
use Rattle.tpcc_rows.specs.declared.transactions.refusals.Refusal.TheVariants as refused
use Rattle.tpcc_book.specs.Past.{Past, IsKept}
use Rattle.tpcc_text.specs.RequestLines.{journal_lines}
use Rattle.tpcc_text.specs.Screens.{refused_screen}
use Rattle.tpcc_show.specs.Shown.{journal_screens}
use Rattle.tpcc_text.specs.declared.script.call.Call.{Call}
use Rattle.tpcc_text.specs.declared.script.call.Call.TheVariants.{Ask}
use Rattle.tpcc_text.specs.declared.script.fault.ScriptFault.{ScriptFault}
use Rattle.tpcc_text.specs.declared.script.fault.ScriptFault.TheVariants.{Bad, Cut, LongLine, TooManyLines, Read, Write, NoMemory}
use Rattle.tpcc_text.specs.declared.script.limits.TheConstants.{MOST_LINES}
use Rattle.tpcc_text.specs.Script.{Script, script_of}
use Rattle.tpcc_script.specs.ScriptBook.{ScriptBook, request_refusal, screens_of, books_after}
use Rattle.tpcc_text.specs.Sayable.{has_words}
use Rattle.tpcc_script.specs.Session.{opened_book}

-- a book whose journal can be written as a script: at most 1,000,000 entries, whose requests have numbers of 32 bits,
-- moments in their range and names of letters
pub record IsWritable (book : Past) : Type 0 where
  pub kept : IsKept book
  pub words : list_all (λ e. has_words e.request) book.entries ≡ true
  pub few : length book.entries ≤ MOST_LINES

-- the script of the journal
abbrev pub script_again : Past → Script
script_again book = script_of (journal_lines book.entries)

-- its screens, each at the book that those before it left, and the book behind the last
abbrev pub screens_again : Past → List ℕ
screens_again book = screens_of (opened_book book.opening) (script_again book).calls

abbrev pub left_again : Past → ScriptBook
left_again book = books_after (opened_book book.opening) (script_again book).calls

-- the screens are those of the stored replies, and the rows, the queue and each entry's request and reply are the same
pub record IsSameAgain (book : Past) (text : List ℕ) (left : ScriptBook) : Type 0 where
  pub screens : text ≡ journal_screens book.entries
  pub opening : left.opening ≡ book.opening
  pub state : left.state ≡ book.state
  pub requests : map (λ e. e.request) left.journal ≡ map (λ e. e.request) book.entries
  pub replies : map (λ e. e.reply) left.journal ≡ map (λ e. e.reply) book.entries

-- behind the screens of some first calls, a request that nothing refuses was refused for want of memory
pub record IsShort (start : ScriptBook) (calls : List Call) (text : List ℕ) : Type 0 where
  pub done : List Call
  pub request : Request
  pub rest : List Call
  pub calls_are : calls ≡ done ++ Ask request ∷ rest
  pub free : request_refusal (books_after start done) request ≡ None
  pub more : List ℕ
  pub shown : text ≡ screens_of start done ++ (refused_screen refused.NoMemory ++ more)

-- what was written, and what is left
pub record IsDone (book : Past) (old new : Option (List ℕ)) (left : ScriptBook) : Type 0 where
  pub text : List ℕ
  pub added : Appends old new text
  pub same : IsSameAgain book text left ⊎ IsShort (opened_book book.opening) (script_again book).calls text

-- how a run of the journal's script may end: with the same again, or early where reading, writing or memory failed
abbrev pub IsDoneAgain : Past → Option (List ℕ) → Option (List ℕ) → ScriptBook → Result (Unit {0}) ScriptFault → Type 0
IsDoneAgain book old new left (Ok done) = IsDone book old new left
IsDoneAgain book old new left (Err Read) = ⊤
IsDoneAgain book old new left (Err Write) = ⊤
IsDoneAgain book old new left (Err NoMemory) = ⊤
IsDoneAgain book old new left (Err (Bad n)) = ⊥
IsDoneAgain book old new left (Err (Cut n)) = ⊥
IsDoneAgain book old new left (Err (LongLine n)) = ⊥
IsDoneAgain book old new left (Err TooManyLines) = ⊥
