-- What a settlement tells.
use Rattle.std.specs.Prelude.{ℕ, ◌≡◌, List, All, Some, Vec, flat_map, slice_get}
use Rattle.std.specs.declared.alloc.Global.{Global}
use Rattle.tpcc_population.specs.declared.opening.Opening.{Opening}
use Rattle.tpcc_book.specs.Past.{Past, rise_of}
use Rattle.tpcc_turns.specs.Seats.{SeatedView}
use Rattle.tpcc_turns.specs.Closing.{IsLeft, IsGathered}
use Rattle.tpcc_terminal.specs.declared.receipts.Receipt.{Receipt}
use Rattle.tpcc_text.specs.declared.screens.report.Report.{Report}
use Rattle.tpcc_terminal.specs.Receipts.{Stands, AllStand}

-- a receipt stands in the front of one of these purses
pub record IsSeen (purses : List SeatedView) (receipt : Receipt) : Type 0 where
  pub place : ℕ
  pub purse : SeatedView
  pub there : slice_get purses place ≡ Some purse
  pub stands : Stands purse.front receipt

abbrev pub AllSeen : List SeatedView → List Receipt → Type 0
AllSeen purses receipts = All (IsSeen purses) receipts

-- those of all terminals, one's behind another's
abbrev pub all_receipts : List (Vec Receipt Global) → List Receipt
all_receipts receipts = flat_map (λ held. held.items) receipts

-- all purses are there: their entries are the journal's, what they paid is the rise of W_YTD, and each
-- receipt is the journal's entry at its place
pub record IsSettled (start : Opening) (purses : List SeatedView) (receipts : List Receipt) (book : Past) (report : Report) : Type 0 where
  pub gathered : IsGathered start purses book report.entries report.paid
  pub rise_is : report.rise ≡ rise_of book
  pub equal : report.paid ≡ report.rise
  pub stand : AllStand book.entries receipts

-- a purse is missing: each receipt is the journal's entry at its place all the same
pub record IsUnsettled (start : Opening) (purses : List SeatedView) (receipts : List Receipt) (book : Past) : Type 0 where
  pub left : IsLeft start purses book
  pub stand : AllStand book.entries receipts
