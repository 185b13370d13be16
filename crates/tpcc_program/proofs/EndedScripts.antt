-- How a script ended whose book was shown.
use Rattle.std.proofs.Common.{ℕ, List, Option, inl}
use Rattle.std.specs.Prelude.{◌≢◌, Result, Ok, Err, IfErr}
use Rattle.tpcc_population.specs.declared.opening.Opening.{Opening}
use Rattle.tpcc_text.specs.declared.script.fault.ScriptFault.{ScriptFault}
use Rattle.tpcc_text.specs.declared.script.fault.ScriptFault.TheVariants as script
use Rattle.tpcc_text.specs.Script.{script_of}
use Rattle.tpcc_show.specs.declared.parts.Part.{Part}
use Rattle.tpcc_script.specs.Session.{opened_book}
use Rattle.tpcc_script.specs.ShownScript.{HasShownScript}
use Rattle.tpcc_program.specs.Commands.{HasShownParts}

-- all its parts were written
pub all_shown : (opening : Opening) (bytes : List ℕ) (asked : List Part) (before after : Option (List ℕ)) (ended : Result ℕ ScriptFault)
    → HasShownScript (opened_book opening) (script_of bytes) asked before after ended → IfErr ended (λ fault. fault ≢ script.Write)
    → HasShownParts opening bytes asked before after ended
all_shown opening bytes asked before after (Ok entries) shown kept = shown
all_shown opening bytes asked before after (Err fault) shown kept = inl (kept, shown)
