-- What a run of a script writes: the screens of its lines, each at the book that the lines before it left.
use Rattle.std.specs.Prelude.{◌≡◌, ◌⊎◌, ℕ, ◌≤◌, Bool, true, false, List, [], ◌∷◌, ◌++◌, length, take, Option, Some, None, Result, Ok, Err}
use Rattle.std.specs.Io.KnownBytes.{Appends}
use Rattle.tpcc_rows.specs.declared.transactions.refusals.Refusal.TheVariants as refused
use Rattle.tpcc_text.specs.Screens.{refused_screen}
use Rattle.tpcc_text.specs.declared.script.call.Call.{Call}
use Rattle.tpcc_text.specs.declared.script.call.Call.TheVariants.{Ask, Check, Results}
use Rattle.tpcc_text.specs.declared.script.fault.ScriptFault.{ScriptFault}
use Rattle.tpcc_text.specs.declared.script.fault.ScriptFault.TheVariants.{Bad, Cut, LongLine, TooManyLines, Read, Write, NoMemory}
use Rattle.tpcc_text.specs.Script.{Script}
use Rattle.tpcc_script.specs.ScriptBook.{ScriptBook, screen_of, book_after, call_refusal}

-- the call's screen, and the book after it
pub record IsServed (old : ScriptBook) (call : Call) (screen : List ℕ) (new : ScriptBook) : Type 0 where
  pub shown : screen ≡ screen_of old call
  pub left : new ≡ book_after old call

abbrev pub is_request : Call → Bool
is_request (Ask request) = true
is_request Check = false
is_request Results = false

-- a request refused for want of memory and for nothing else, which leaves the book
pub record IsOutOfMemory (old : ScriptBook) (call : Call) (screen : List ℕ) (new : ScriptBook) : Type 0 where
  pub request : is_request call ≡ true
  pub free : call_refusal old call ≡ None
  pub shown : screen ≡ refused_screen refused.NoMemory
  pub left : new ≡ old

abbrev pub Shows : ScriptBook → Call → List ℕ → ScriptBook → Type 0
Shows old call screen new = IsServed old call screen new ⊎ IsOutOfMemory old call screen new

-- calls one after another: the text is their screens
abbrev pub Prints : ScriptBook → List Call → List ℕ → ScriptBook → Type 0
Prints old [] text new = (text ≡ []) × (new ≡ old)
Prints old (call ∷ calls) text new = (screen : List ℕ) × (more : List ℕ) × (mid : ScriptBook) × Shows old call screen mid × (text ≡ screen ++ more) × Prints mid calls more new

-- the calls were served, and a sink got their screens: all of them, or the first bytes of them
pub record Wrote (start : ScriptBook) (calls : List Call) (old new : Option (List ℕ)) (left : ScriptBook) : Type 0 where
  pub text : List ℕ
  pub prints : Prints start calls text left
  pub added : Appends old new text

pub record WrotePrefix (start : ScriptBook) (calls : List Call) (old new : Option (List ℕ)) (left : ScriptBook) : Type 0 where
  pub text : List ℕ
  pub prints : Prints start calls text left
  pub count : ℕ
  pub within : count ≤ length text
  pub added : Appends old new (take count text)

-- the same of some first calls
pub record WroteFirst (start : ScriptBook) (calls : List Call) (old new : Option (List ℕ)) (left : ScriptBook) : Type 0 where
  pub done : List Call
  pub rest : List Call
  pub calls_are : calls ≡ done ++ rest
  pub wrote : Wrote start done old new left

pub record WrotePrefixOfFirst (start : ScriptBook) (calls : List Call) (old new : Option (List ℕ)) (left : ScriptBook) : Type 0 where
  pub done : List Call
  pub rest : List Call
  pub calls_are : calls ≡ done ++ rest
  pub wrote : WrotePrefix start done old new left

-- some first calls, and one more that was served and has no screen
pub record WroteButLast (start : ScriptBook) (calls : List Call) (old new : Option (List ℕ)) (left : ScriptBook) : Type 0 where
  pub done : List Call
  pub last : Call
  pub rest : List Call
  pub calls_are : calls ≡ done ++ last ∷ rest
  pub before : ScriptBook
  pub wrote : Wrote start done old new before
  pub screen : List ℕ
  pub served : Shows before last screen left

-- how a run of a script ends, and the book that it leaves. At its end or at the first fault of its text all calls before it are served and
-- shown. Reading, memory and writing may fail before: what was served is shown, save that memory may be refused for the last screen,
-- and that the writer may take a part of the last screens
abbrev pub IsRun : ScriptBook → Script → Option (List ℕ) → Option (List ℕ) → ScriptBook → Result (Unit {0}) ScriptFault → Type 0
IsRun start script old new left (Ok done) = (script.fault ≡ None) × Wrote start script.calls old new left
IsRun start script old new left (Err (Bad n)) = (script.fault ≡ Some (Bad n)) × Wrote start script.calls old new left
IsRun start script old new left (Err (Cut n)) = (script.fault ≡ Some (Cut n)) × Wrote start script.calls old new left
IsRun start script old new left (Err (LongLine n)) = (script.fault ≡ Some (LongLine n)) × Wrote start script.calls old new left
IsRun start script old new left (Err TooManyLines) = (script.fault ≡ Some TooManyLines) × Wrote start script.calls old new left
IsRun start script old new left (Err Read) = WroteFirst start script.calls old new left
IsRun start script old new left (Err NoMemory) = WroteFirst start script.calls old new left ⊎ WroteButLast start script.calls old new left
IsRun start script old new left (Err Write) = WrotePrefixOfFirst start script.calls old new left

-- the same of a run that tells how many entries the book has, where it comes to its end
abbrev pub IsCounted : ScriptBook → Script → Option (List ℕ) → Option (List ℕ) → ScriptBook → Result ℕ ScriptFault → Type 0
IsCounted start script old new left (Ok entries) = (entries ≡ length left.journal) × IsRun start script old new left (Ok tt)
IsCounted start script old new left (Err fault) = IsRun start script old new left (Err fault)

-- the same of a run whose book is let go
abbrev pub HasRun : ScriptBook → Script → Option (List ℕ) → Option (List ℕ) → Result ℕ ScriptFault → Type 0
HasRun start script old new result = (left : ScriptBook) × IsCounted start script old new left result
