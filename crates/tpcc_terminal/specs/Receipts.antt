-- Receipts, and how they stand in a journal.
use Rattle.std.specs.Prelude.{ℕ, ◌≡◌, ◌-◌, List, [], ◌∷◌, All, Option, Some, None, Result, Ok, Err, slice_get}
use Rattle.tpcc_rows.specs.declared.transactions.entry.Entry.{Entry}
use Rattle.tpcc_rows.specs.declared.transactions.requests.Request.{Request}
use Rattle.tpcc_rows.specs.declared.transactions.replies.Reply.{Reply}
use Rattle.tpcc_rows.specs.declared.transactions.refusals.Refusal.{Refusal}
use Rattle.tpcc_book.specs.Purses.{PurseView}
use Rattle.tpcc_book.specs.AnswerView.{AnswerView}
use Rattle.tpcc_terminal.specs.declared.receipts.Receipt.{Receipt}

-- one receipt where there is a reply and its place; its number is that of the purse's last entry
abbrev pub receipts_at : PurseView → Request → Result Reply Refusal → Option ℕ → List Receipt
receipts_at purse request (Ok reply) (Some place) =
    record { terminal = purse.terminal; number = purse.entries - 1; place = place; request = request; reply = reply } ∷ []
receipts_at purse request (Ok reply) None = []
receipts_at purse request (Err refusal) place = []

-- the receipts of an answer: one of an accepted request, none of a refused one
abbrev pub receipts_of : {P : Type 0} → (P → PurseView) → AnswerView P → List Receipt
receipts_of held answer = receipts_at (held answer.purse) answer.request answer.outcome answer.place

-- the journal's entry that a receipt is of
abbrev pub entry_of_receipt : Receipt → Entry
entry_of_receipt r = record { terminal = r.terminal; number = r.number; request = r.request; reply = r.reply }

-- the entry stands at its place
pub record Stands (entries : List Entry) (r : Receipt) : Type 0 where
  pub at : slice_get entries r.place ≡ Some (entry_of_receipt r)

abbrev pub AllStand : List Entry → List Receipt → Type 0
AllStand entries receipts = All (Stands entries) receipts
