-- What the program does for a command: what goes to its writer, and why it ends early.
use Rattle.std.specs.Prelude.{◌≡◌, ◌≢◌, ◌⊎◌, ℕ, Bool, true, false, List, [], ◌∷◌, Option, Some, None, Result, Ok, Err}
use Rattle.std.specs.Io.KnownBytes.{Appends}
use Rattle.tpcc_rows.specs.declared.tables.row.Table.{Table}
use Rattle.tpcc_population.specs.Opening.{opening_rows}
use Rattle.tpcc_population.specs.declared.opening.Opening.{Opening}
use Rattle.tpcc_text.specs.Prefix.{AppendsPrefix}
use Rattle.tpcc_text.specs.Script.{script_of}
use Rattle.tpcc_text.specs.declared.screens.report.Report.{Report}
use Rattle.tpcc_text.specs.declared.script.fault.ScriptFault.{ScriptFault}
use Rattle.tpcc_text.specs.declared.script.fault.ScriptFault.TheVariants as script
use Rattle.tpcc_show.specs.Dump.{dump_text}
use Rattle.tpcc_show.specs.declared.parts.Part.{Part}
use Rattle.tpcc_show.specs.declared.parts.Part.TheVariants as parts
use Rattle.tpcc_script.specs.Run.{HasRun}
use Rattle.tpcc_script.specs.Session.{opened_book}
use Rattle.tpcc_script.specs.ShownScript.{HasShownScript, HasShownScriptPrefix}
use Rattle.tpcc_run.specs.Outcome.{HasReported, HasShown, HasShownPrefix}
use Rattle.tpcc_run.specs.declared.plan.Plan.{Plan}
use Rattle.tpcc_program.specs.declared.command.Command.{Command}
use Rattle.tpcc_program.specs.declared.command.Task.{Task}
use Rattle.tpcc_program.specs.declared.command.Task.TheVariants as tasks
use Rattle.tpcc_program.specs.declared.fault.ProgramFault.{ProgramFault}
use Rattle.tpcc_program.specs.declared.fault.ProgramFault.TheVariants as program
use Rattle.tpcc_program.specs.Openings.{named_opening, named_scale}
use Rattle.tpcc_program.specs.Requests.{asked_by, request_lines}

-- how a command ended
abbrev pub Ended : Type 0
Ended = Result (Unit {0}) ProgramFault

-- a text was written: whole, or a first part of it where writing failed or memory was refused
abbrev pub HasPut : List ℕ → Option (List ℕ) → Option (List ℕ) → Ended → Type 0
HasPut text before after (Ok done) = Appends before after text
HasPut text before after (Err (program.Output fault)) = AppendsPrefix before after text
HasPut text before after (Err (program.Words fault)) = ⊥
HasPut text before after (Err (program.Script fault)) = ⊥
HasPut text before after (Err (program.Run fault)) = ⊥

-- the screens of a script, which are what it shows where nothing is asked for
abbrev pub is_screens : Part → Bool
is_screens parts.Screens = true
is_screens parts.Report = false
is_screens parts.Journal = false
is_screens parts.Receipts = false
is_screens parts.Results = false
is_screens parts.Check = false
is_screens (parts.Rows table) = false

abbrev pub are_screens : List Part → Bool
are_screens [] = true
are_screens (part ∷ []) = is_screens part
are_screens (part ∷ next ∷ rest) = false

-- a script ran on the book of an opening, and parts of the book that it left were written, or a first part of these: which is never said of
-- a script that came to its end, and always of a failed write
abbrev pub HasShownParts : Opening → List ℕ → List Part → Option (List ℕ) → Option (List ℕ) → Result ℕ ScriptFault → Type 0
HasShownParts opening bytes asked before after (Ok entries) = HasShownScript (opened_book opening) (script_of bytes) asked before after (Ok entries)
HasShownParts opening bytes asked before after (Err fault) =
    ((fault ≢ script.Write) × HasShownScript (opened_book opening) (script_of bytes) asked before after (Err fault))
    ⊎ HasShownScriptPrefix (opened_book opening) (script_of bytes) asked before after

-- what a script of these bytes came to: its screens are written as they come, where it is to show nothing else
abbrev pub HasServedBytes : Bool → Opening → List ℕ → List Part → Option (List ℕ) → Option (List ℕ) → Result ℕ ScriptFault → Type 0
HasServedBytes true opening bytes asked before after ended = HasRun (opened_book opening) (script_of bytes) before after ended
HasServedBytes false opening bytes asked before after ended = HasShownParts opening bytes asked before after ended

-- a script that a reader has left was served, and parts were asked for
abbrev pub HasServed : Opening → List Part → Option (List ℕ) → Option (List ℕ) → Option (List ℕ) → Ended → Type 0
HasServed opening asked input before after (Ok done) =
    (bytes : List ℕ) → input ≡ Some bytes → (entries : ℕ) × HasServedBytes (are_screens asked) opening bytes asked before after (Ok entries)
HasServed opening asked input before after (Err (program.Script fault)) =
    (bytes : List ℕ) → input ≡ Some bytes → HasServedBytes (are_screens asked) opening bytes asked before after (Err fault)
HasServed opening asked input before after (Err (program.Words fault)) = ⊥
HasServed opening asked input before after (Err (program.Output fault)) = ⊥
HasServed opening asked input before after (Err (program.Run fault)) = ⊥

-- the parts that a run shows: the report, where nothing is asked for
abbrev pub parts_or_report : List Part → List Part
parts_or_report [] = parts.Report ∷ []
parts_or_report (part ∷ rest) = part ∷ rest

-- the report of a run, or the parts of its book that were asked for
abbrev pub HasToldRun : Opening → Plan → List Part → Option (List ℕ) → Option (List ℕ) → Type 0
HasToldRun opening plan [] before after = HasReported opening plan before after
HasToldRun opening plan (part ∷ rest) before after = (report : Report) × HasShown opening plan (part ∷ rest) report before after

-- a plan was run, and parts were asked for
abbrev pub HasRunPlan : Opening → Plan → List Part → Option (List ℕ) → Option (List ℕ) → Ended → Type 0
HasRunPlan opening plan asked before after (Ok done) = HasToldRun opening plan asked before after
HasRunPlan opening plan asked before after (Err (program.Run fault)) = HasShownPrefix opening plan (parts_or_report asked) before after
HasRunPlan opening plan asked before after (Err (program.Words fault)) = ⊥
HasRunPlan opening plan asked before after (Err (program.Script fault)) = ⊥
HasRunPlan opening plan asked before after (Err (program.Output fault)) = ⊥

-- a task was done for a command, with what its reader had left
abbrev pub HasDone : Task → Command → Option (List ℕ) → Option (List ℕ) → Option (List ℕ) → Ended → Type 0
HasDone tasks.Script command input before after ended = HasServed (named_opening command) command.shows input before after ended
HasDone (tasks.Dump table) command input before after ended = HasPut (dump_text (opening_rows (named_opening command)) table) before after ended
HasDone (tasks.Run plan) command input before after ended = HasRunPlan (named_opening command) plan command.shows before after ended
HasDone (tasks.Requests asking) command input before after ended =
    HasPut (request_lines (asked_by asking.terminal (named_scale command) command.seed command.moment asking.cards)) before after ended

-- the command was done
abbrev pub HasPerformed : Command → Option (List ℕ) → Option (List ℕ) → Option (List ℕ) → Ended → Type 0
HasPerformed command = HasDone command.task command

-- a task that reads a script
abbrev pub is_script : Task → Bool
is_script tasks.Script = true
is_script (tasks.Dump table) = false
is_script (tasks.Run plan) = false
is_script (tasks.Requests asking) = false
