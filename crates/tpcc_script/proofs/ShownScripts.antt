-- A script that ran, and then parts of the book that it left.
use Rattle.std.proofs.Common.{ℕ, List, [], Option, Some}
use Rattle.std.specs.Result.{result_and}
use Rattle.std.specs.Prelude.{Result, Ok, Err, IfErr, IfOk, OnErr, OnOk}
use Rattle.std.specs.Io.KnownBytes.{Appends}
use Rattle.tpcc_book.specs.Past.{Past}
use Rattle.tpcc_text.specs.Prefix.{AppendsPrefix}
use Rattle.tpcc_show.specs.declared.parts.Part.{Part}
use Rattle.tpcc_show.specs.Shown.{served_text}
use Rattle.tpcc_text.specs.declared.script.fault.ScriptFault.{ScriptFault}
use Rattle.tpcc_text.specs.Script.{Script}
use Rattle.tpcc_script.specs.Run.{IsCounted}
use Rattle.tpcc_script.specs.ScriptBook.{ScriptBook}
use Rattle.tpcc_script.specs.Session.{book_of}
use Rattle.tpcc_script.specs.ShownScript.{HasShownScript, HasShownScriptPrefix}

pub has_shown : (start : ScriptBook) (script : Script) (asked : List Part) (old new : Option (List ℕ)) (left : Past) (screens : List ℕ) (ended : Result ℕ ScriptFault) (shown : Result (Unit {0}) ScriptFault)
    → IsCounted start script (Some []) (Some screens) (book_of left) ended → OnOk shown (Appends old new (served_text screens left asked))
    → IfOk (result_and shown (Ok ended)) (HasShownScript start script asked old new)
has_shown start script asked old new left screens ended (Ok done) ran written = record { book = left; screens = screens; ran = ran; written = written }
has_shown start script asked old new left screens ended (Err fault) ran written = tt

pub has_shown_part : (start : ScriptBook) (script : Script) (asked : List Part) (old new : Option (List ℕ)) (left : Past) (screens : List ℕ) (ended : Result ℕ ScriptFault) (shown : Result (Unit {0}) ScriptFault)
    → IsCounted start script (Some []) (Some screens) (book_of left) ended → OnErr shown (AppendsPrefix old new (served_text screens left asked))
    → OnErr (result_and shown (Ok ended)) (HasShownScriptPrefix start script asked old new)
has_shown_part start script asked old new left screens ended (Ok done) ran part = tt
has_shown_part start script asked old new left screens ended (Err fault) ran part = record { book = left; screens = screens; ended = ended; ran = ran; part = part }

pub has_kept : (P : ScriptFault → Type 0) (ended : Result ℕ ScriptFault) (shown : Result (Unit {0}) ScriptFault)
    → OnOk shown (IfErr ended P) → IfOk (result_and shown (Ok ended)) (λ e. IfErr e P)
has_kept P ended (Ok done) kept = kept
has_kept P ended (Err fault) kept = tt
