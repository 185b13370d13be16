-- Receipts that were kept stand in the purse's front.
use Rattle.std.proofs.Common.{◌≡◌, List, ◌++◌, subst, arith}
use Rattle.std.specs.Prelude.{⊤, Result, Ok, Err, OnOk, OnErr}
use Rattle.std.proofs.lemmas.List.{length-append, get_or_append_left}
use Rattle.tpcc_rows.specs.declared.transactions.entry.Entry.{Entry}
use Rattle.tpcc_rows.specs.declared.transactions.requests.Request.{Request}
use Rattle.tpcc_book.specs.AnswerView.{AnswerView}
use Rattle.tpcc_turns.specs.Seats.{SeatedView, IsTurned}
use Rattle.tpcc_terminal.specs.declared.receipts.Receipt.{Receipt}
use Rattle.tpcc_terminal.specs.Receipts.{Stands, AllStand, receipts_of}
use Rattle.tpcc_terminal.specs.Terminals.{TerminalView}

-- receipts that stand with more stand without
stand_without : (entries : List Entry) (before more : List Receipt) → AllStand entries (before ++ more) → AllStand entries before
stand_without entries before more all k d below =
    subst (Stands entries) (get_or_append_left before more d k below) (all k d (omega (arith, length-append before more, below)))

-- the receipts that a terminal has after an answer stand in its purse's front, whether there was room for one more or not
pub stand_after : {E : Type 0} → ((request : Request) (purse : SeatedView) (answer : AnswerView SeatedView) (receipts : List Receipt) → IsTurned request purse answer → AllStand purse.front receipts → AllStand answer.purse.front (receipts ++ receipts_of (λ p. p.purse) answer))
    → (request : Request) (purse after : SeatedView) (answer : AnswerView SeatedView) (old new : TerminalView) (r : Result ⊤ E)
    → IsTurned request purse answer → after ≡ answer.purse → AllStand purse.front old.receipts
    → OnOk r (new ≡ record old { receipts = old.receipts ++ receipts_of (λ p. p.purse) answer }) → OnErr r (new ≡ old) → AllStand after.front new.receipts
stand_after law request purse after answer old new (Ok x) turned is stand noted refused =
    rw (is, noted) (law request purse answer old.receipts turned stand)
stand_after law request purse after answer old new (Err e) turned is stand noted refused =
    rw (is, refused) (stand_without answer.purse.front old.receipts (receipts_of (λ p. p.purse) answer) (law request purse answer old.receipts turned stand))
