-- What a run that was asked for has told.
use Rattle.std.proofs.Common.{ℕ, List, [], ◌∷◌, Option}
use Rattle.std.specs.Prelude.{Result, Ok, Err, IfOk, OnOk}
use Rattle.tpcc_population.specs.declared.opening.Opening.{Opening}
use Rattle.tpcc_text.specs.declared.screens.report.Report.{Report}
use Rattle.tpcc_show.specs.declared.parts.Part.{Part}
use Rattle.tpcc_run.specs.declared.plan.Plan.{Plan}
use Rattle.tpcc_run.specs.declared.threads.fault.RunFault.{RunFault}
use Rattle.tpcc_run.specs.Outcome.{HasShown}
use Rattle.tpcc_run.proofs.Reported.{report_of_totals}
use Rattle.tpcc_program.specs.Commands.{HasToldRun, parts_or_report}

told : (opening : Opening) (plan : Plan) (asked : List Part) (report : Report) (before after : Option (List ℕ))
    → HasShown opening plan (parts_or_report asked) report before after → HasToldRun opening plan asked before after
told opening plan [] report before after shown = report_of_totals opening plan shown.book shown.receipts report before after shown.told shown.written
told opening plan (part ∷ rest) report before after shown = (report, shown)

-- where nothing is asked for the part that was shown is the report
pub has_told : (opening : Opening) (plan : Plan) (asked : List Part) (before after : Option (List ℕ)) (r : Result Report RunFault)
    → IfOk r (λ report. HasShown opening plan (parts_or_report asked) report before after) → OnOk r (HasToldRun opening plan asked before after)
has_told opening plan asked before after (Ok report) shown = told opening plan asked report before after shown
has_told opening plan asked before after (Err fault) shown = tt
