-- What a run comes to.
use Rattle.std.specs.Prelude.{ℕ, ◌≡◌, ◌⊎◌, List, [], Option, Vec}
use Rattle.std.specs.Io.KnownBytes.{Appends, Keeps}
use Rattle.std.specs.declared.alloc.Global.{Global}
use Rattle.tpcc_population.specs.declared.opening.Opening.{Opening}
use Rattle.tpcc_population.specs.Opening.{opening_scale}
use Rattle.tpcc_book.specs.Past.{Past}
use Rattle.tpcc_book.specs.Purses.{all_shares, first_purse}
use Rattle.tpcc_book.specs.Serve.{rooms_of}
use Rattle.tpcc_turns.specs.Seats.{SeatedView, purses_of}
use Rattle.tpcc_terminal.specs.declared.receipts.Receipt.{Receipt}
use Rattle.tpcc_audit.specs.Settlement.{IsSettled, all_receipts}
use Rattle.tpcc_text.specs.declared.screens.report.Report.{Report}
use Rattle.tpcc_text.specs.Report.{report_text}
use Rattle.tpcc_text.specs.Prefix.{AppendsPrefix}
use Rattle.tpcc_show.specs.declared.parts.Part.{Part}
use Rattle.tpcc_run.specs.declared.plan.Plan.{Plan}
use Rattle.tpcc_run.specs.Returned.{HaveAllComeBack}
use Rattle.tpcc_run.specs.ShownRun.{run_text}

-- the first purse of a book of the opening, whose journal is empty
abbrev pub opening_purse : Opening → SeatedView
opening_purse opening = record { purse = first_purse; start = opening; front = [] }

-- the book of the opening at the end of a run of the plan, with its receipts and its totals. The purses are those of the plan's
-- terminals, each of which asked all its cards, of the delivery runner, of the opening, and of the servers, which made nothing. They are
-- all there, so the entries that they made are the book's, and what they paid is the rise of W_YTD; and each receipt is the book's entry
-- at its place
pub record HasSettled (opening : Opening) (plan : Plan) (book : Past) (receipts : List (Vec Receipt Global)) (report : Report) : Type 0 where
  pub purses : List SeatedView
  pub back : HaveAllComeBack (opening_scale opening) plan (opening_purse opening) purses receipts
  pub all_there : rooms_of (purses_of purses) ≡ all_shares
  pub settled : IsSettled opening purses (all_receipts receipts) book report

-- the report of a run: the entries that its purses made, and what they paid, which is the rise of W_YTD
pub record HasReported (opening : Opening) (plan : Plan) (before after : Option (List ℕ)) : Type 0 where
  pub book : Past
  pub receipts : List (Vec Receipt Global)
  pub report : Report
  pub told : HasSettled opening plan book receipts report
  pub written : Appends before after (report_text report.entries report.paid report.rise)

-- these parts of the book of a run, with the receipts that its terminals kept; its totals are these
pub record HasShown (opening : Opening) (plan : Plan) (parts : List Part) (report : Report) (before after : Option (List ℕ)) : Type 0 where
  pub book : Past
  pub receipts : List (Vec Receipt Global)
  pub told : HasSettled opening plan book receipts report
  pub written : Appends before after (run_text book (all_receipts receipts) parts)

-- some first bytes of these parts of such a book, or nothing where the run came to no such book
pub record HasCut (opening : Opening) (plan : Plan) (parts : List Part) (before after : Option (List ℕ)) : Type 0 where
  pub book : Past
  pub receipts : List (Vec Receipt Global)
  pub report : Report
  pub told : HasSettled opening plan book receipts report
  pub part : AppendsPrefix before after (run_text book (all_receipts receipts) parts)

abbrev pub HasShownPrefix : Opening → Plan → List Part → Option (List ℕ) → Option (List ℕ) → Type 0
HasShownPrefix opening plan parts before after = HasCut opening plan parts before after ⊎ Keeps before after
