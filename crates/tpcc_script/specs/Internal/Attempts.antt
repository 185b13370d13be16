-- What a call of a script's reader or writer did, and why the two are given up.
use Rattle.std.specs.Prelude.{◌≡◌, ℕ, ◌<◌, ⊤, Bool, true, List, drop, slice_get, Option, Some}
use Rattle.std.specs.Io.KnownBytes.{Keeps}
use Rattle.tpcc_text.specs.declared.script.fault.ScriptFault.{ScriptFault}
use Rattle.tpcc_text.specs.declared.script.fault.ScriptFault.TheVariants.{Bad, Cut, LongLine, TooManyLines, Read, Write, NoMemory}
use Rattle.tpcc_script.specs.declared.watch.Attempt.{Attempt}
use Rattle.tpcc_script.specs.declared.watch.Attempt.TheVariants.{Done, Again}

-- how often an interrupted call may still be made again, and whether the reader and the writer were given up
pub record WatchView : Type 0 where
  pub retries : ℕ
  pub reader_failed : Bool
  pub writer_failed : Bool

-- the next byte that the reader has left, if it has one, was taken
abbrev pub TakesByte : Option (List ℕ) → Option (List ℕ) → Option ℕ → Type 0
TakesByte left after byte = (xs : List ℕ) → left ≡ Some xs → (byte ≡ slice_get xs 0) × (after ≡ Some (drop 1 xs))

-- a byte was read, or the call was interrupted and one retry less is left
abbrev pub HasRead : WatchView → WatchView → Option (List ℕ) → Option (List ℕ) → Attempt (Option ℕ) → Type 0
HasRead old new left after (Done byte) = TakesByte left after byte
HasRead old new left after Again = Keeps left after × (new.retries < old.retries)

-- the writer was flushed, or the call was interrupted and one retry less is left
abbrev pub HasFlushed : WatchView → WatchView → Attempt (Unit {0}) → Type 0
HasFlushed old new (Done done) = ⊤
HasFlushed old new Again = new.retries < old.retries

-- no more of the two was given up
pub record IsNoWorse (old new : WatchView) : Type 0 where
  pub reader : new.reader_failed ≡ old.reader_failed
  pub writer : new.writer_failed ≡ old.writer_failed

-- Read only where the reader was given up, Write only where the writer was
abbrev pub HasGivenUp : WatchView → ScriptFault → Type 0
HasGivenUp watch Read = watch.reader_failed ≡ true
HasGivenUp watch Write = watch.writer_failed ≡ true
HasGivenUp watch (Bad n) = ⊤
HasGivenUp watch (Cut n) = ⊤
HasGivenUp watch (LongLine n) = ⊤
HasGivenUp watch TooManyLines = ⊤
HasGivenUp watch NoMemory = ⊤
