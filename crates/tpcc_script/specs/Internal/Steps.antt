-- One line of a run.
use Rattle.std.specs.Prelude.{◌≡◌, ◌⊎◌, ℕ, ◌+◌, ◌≤◌, List, ◌++◌, Bool, true, false, Option, Some, None, Result, Ok, Err}
use Rattle.std.specs.Io.KnownBytes.{Appends}
use Rattle.tpcc_text.specs.declared.script.call.Call.{Call}
use Rattle.tpcc_text.specs.declared.script.fault.ScriptFault.{ScriptFault}
use Rattle.tpcc_text.specs.declared.script.fault.ScriptFault.TheVariants.{Bad, Cut, LongLine, TooManyLines, Read, Write, NoMemory}
use Rattle.tpcc_text.specs.declared.script.limits.TheConstants.{MOST_LINES}
use Rattle.tpcc_text.specs.Script.{Script, call_of, lines_say, parts_of, then_says, with_call, ends, fails}
use Rattle.tpcc_script.specs.ScriptBook.{ScriptBook}
use Rattle.tpcc_text.specs.Prefix.{AppendsPrefix, PassesBytes}
use Rattle.tpcc_script.specs.Run.{Shows}

-- what the bytes say, from a line on
abbrev pub says : ℕ → List ℕ → Script
says number bytes = lines_say number (parts_of 10 bytes)

-- a fault of the text, or one of reading or memory
abbrev pub IsFaultOf : Script → ScriptFault → Type 0
IsFaultOf script (Bad n) = script ≡ fails (Bad n)
IsFaultOf script (Cut n) = script ≡ fails (Cut n)
IsFaultOf script (LongLine n) = script ≡ fails (LongLine n)
IsFaultOf script TooManyLines = script ≡ fails TooManyLines
IsFaultOf script Read = Unit {0}
IsFaultOf script NoMemory = Unit {0}
IsFaultOf script Write = ⊥

-- a line was read, or the end, or a fault
pub record IsLine (number : ℕ) (bytes line : List ℕ) (left : Option (List ℕ)) : Type 0 where
  pub rest : List ℕ
  pub left_is : left ≡ Some rest
  pub number_fits : number ≤ MOST_LINES
  pub says_is : says number bytes ≡ then_says number (call_of line) (says (number + 1) rest)

abbrev pub IsRead : {L : Type 0} → (L → List ℕ) → ℕ → List ℕ → Result (Option L) ScriptFault → Option (List ℕ) → Type 0
IsRead view number bytes (Ok (Some line)) left = IsLine number bytes (view line) left
IsRead view number bytes (Ok None) left = says number bytes ≡ ends
IsRead view number bytes (Err fault) left = IsFaultOf (says number bytes) fault

-- a line was served, and has a screen
pub record IsLineServed (number : ℕ) (bytes : List ℕ) (old : ScriptBook) (screen : List ℕ) (new : ScriptBook) (left : Option (List ℕ)) : Type 0 where
  pub call : Call
  pub rest : List ℕ
  pub left_is : left ≡ Some rest
  pub number_fits : number ≤ MOST_LINES
  pub says_is : says number bytes ≡ with_call call (says (number + 1) rest)
  pub shows : Shows old call screen new

-- the same, where the screen is not given
pub record IsLineUnshown (number : ℕ) (bytes : List ℕ) (old new : ScriptBook) (left : Option (List ℕ)) : Type 0 where
  pub screen : List ℕ
  pub served : IsLineServed number bytes old screen new left

-- the text ends so, and the book is the same
pub record IsEnd (number : ℕ) (bytes : List ℕ) (script : Script) (old new : ScriptBook) : Type 0 where
  pub says_is : says number bytes ≡ script
  pub book : new ≡ old

-- why no screen is given: the book is the same, or memory was refused for the screen of a line that it has served
abbrev pub IsStopped : ℕ → List ℕ → ScriptBook → ScriptBook → Option (List ℕ) → ScriptFault → Type 0
IsStopped number bytes old new left (Bad n) = IsEnd number bytes (fails (Bad n)) old new
IsStopped number bytes old new left (Cut n) = IsEnd number bytes (fails (Cut n)) old new
IsStopped number bytes old new left (LongLine n) = IsEnd number bytes (fails (LongLine n)) old new
IsStopped number bytes old new left TooManyLines = IsEnd number bytes (fails TooManyLines) old new
IsStopped number bytes old new left Read = new ≡ old
IsStopped number bytes old new left NoMemory = (new ≡ old) ⊎ IsLineUnshown number bytes old new left
IsStopped number bytes old new left Write = ⊥

-- what became of a line: its screen, the end, or a fault
abbrev pub IsAnswered : ℕ → List ℕ → ScriptBook → ScriptBook → Option (List ℕ) → Result (Option (List ℕ)) ScriptFault → Type 0
IsAnswered number bytes old new left (Ok (Some screen)) = IsLineServed number bytes old screen new left
IsAnswered number bytes old new left (Ok None) = IsEnd number bytes ends old new
IsAnswered number bytes old new left (Err fault) = IsStopped number bytes old new left fault

-- a line was served; of what waited and its screen the sink got some first bytes, and the others wait
pub record IsLineBuffered (number : ℕ) (bytes : List ℕ) (old new : ScriptBook) (left held now : Option (List ℕ)) (waits more : List ℕ) : Type 0 where
  pub screen : List ℕ
  pub served : IsLineServed number bytes old screen new left
  pub passed : PassesBytes held now (waits ++ screen) more

-- the sink was given up at some first bytes of what waited and of a line's screen
pub record IsLineBroken (number : ℕ) (bytes : List ℕ) (old new : ScriptBook) (left held now : Option (List ℕ)) (waits : List ℕ) : Type 0 where
  pub screen : List ℕ
  pub served : IsLineServed number bytes old screen new left
  pub part : AppendsPrefix held now (waits ++ screen)

-- or of what waited alone, where no line was served
pub record IsStillBroken (old new : ScriptBook) (held now : Option (List ℕ)) (waits : List ℕ) : Type 0 where
  pub book : new ≡ old
  pub part : AppendsPrefix held now waits

-- there is no more to be served, and all that waited is written
pub record IsStill (number : ℕ) (bytes : List ℕ) (old new : ScriptBook) (left held now : Option (List ℕ)) (waits : List ℕ) (fault : ScriptFault) : Type 0 where
  pub stopped : IsStopped number bytes old new left fault
  pub added : Appends held now waits

abbrev pub IsFault : ℕ → List ℕ → ScriptBook → ScriptBook → Option (List ℕ) → Option (List ℕ) → Option (List ℕ) → List ℕ → ScriptFault → Type 0
IsFault number bytes old new left held now waits Write = IsStillBroken old new held now waits ⊎ IsLineBroken number bytes old new left held now waits
IsFault number bytes old new left held now waits (Bad n) = IsStill number bytes old new left held now waits (Bad n)
IsFault number bytes old new left held now waits (Cut n) = IsStill number bytes old new left held now waits (Cut n)
IsFault number bytes old new left held now waits (LongLine n) = IsStill number bytes old new left held now waits (LongLine n)
IsFault number bytes old new left held now waits TooManyLines = IsStill number bytes old new left held now waits TooManyLines
IsFault number bytes old new left held now waits Read = IsStill number bytes old new left held now waits Read
IsFault number bytes old new left held now waits NoMemory = IsStill number bytes old new left held now waits NoMemory

-- what became of a line and of its screen: `waits` is what had not been written before it, and `more` what has not been written behind it
abbrev pub IsStep : ℕ → List ℕ → ScriptBook → ScriptBook → Option (List ℕ) → Option (List ℕ) → Option (List ℕ) → List ℕ → List ℕ → Result Bool ScriptFault → Type 0
IsStep number bytes old new left held now waits more (Ok true) = IsLineBuffered number bytes old new left held now waits more
IsStep number bytes old new left held now waits more (Ok false) = IsEnd number bytes ends old new × Appends held now waits
IsStep number bytes old new left held now waits more (Err fault) = IsFault number bytes old new left held now waits fault
