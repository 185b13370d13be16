-- The totals of a settled book.
use Rattle.std.proofs.Common.{refl, ℕ, List, Option, Some, None, inl, inr}
use Rattle.std.specs.Prelude.{Result, Ok, Err, OnErr, Vec}
use Rattle.std.specs.declared.alloc.Global.{Global}
use Rattle.std.specs.Io.KnownBytes.{Appends}
use Rattle.tpcc_population.specs.declared.opening.Opening.{Opening}
use Rattle.tpcc_book.specs.Past.{Past}
use Rattle.tpcc_terminal.specs.declared.receipts.Receipt.{Receipt}
use Rattle.tpcc_text.specs.declared.screens.report.Report.{Report}
use Rattle.tpcc_show.specs.declared.parts.Part.{Part}
use Rattle.tpcc_run.specs.declared.plan.Plan.{Plan}
use Rattle.tpcc_show.specs.Shown.{book_report}
use Rattle.tpcc_run.specs.Outcome.{HasCut, HasReported, HasShownPrefix, HasSettled}

-- the book's report is that of its totals
pub report_of_totals : (opening : Opening) (plan : Plan) (book : Past) (receipts : List (Vec Receipt Global)) (report : Report) (before after : Option (List ℕ))
    → HasSettled opening plan book receipts report → Appends before after (book_report book) → HasReported opening plan before after
report_of_totals opening plan book receipts report before after told written =
    let gathered = told.settled.gathered in
    record {
      book = book;
      receipts = receipts;
      report = report;
      told = told;
      written = rw (gathered.entries_counted, gathered.paid_rose, told.settled.rise_is) written;
    }

-- where nothing was written
pub nothing_shown : (opening : Opening) (plan : Plan) (parts : List Part) (sink : Option (List ℕ)) → HasShownPrefix opening plan parts sink sink
nothing_shown opening plan parts None = inr tt
nothing_shown opening plan parts (Some bytes) = inr refl

pub cut_shown : {X E : Type 0} (opening : Opening) (plan : Plan) (parts : List Part) (before after : Option (List ℕ)) (r : Result X E)
    → OnErr r (HasCut opening plan parts before after) → OnErr r (HasShownPrefix opening plan parts before after)
cut_shown opening plan parts before after (Ok x) cut = tt
cut_shown opening plan parts before after (Err e) cut = inl cut
