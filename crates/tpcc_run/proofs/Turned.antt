-- A turn that was made for the same request and purse.
use Rattle.std.proofs.Common.{◌≡◌, subst}
use Rattle.tpcc_rows.specs.declared.transactions.requests.Request.{Request}
use Rattle.tpcc_book.specs.AnswerView.{AnswerView}
use Rattle.tpcc_turns.specs.Seats.{SeatedView, IsTurned}

pub turned_as : (request asked : Request) (purse held : SeatedView) (answer : AnswerView SeatedView) → asked ≡ request → held ≡ purse → IsTurned asked held answer → IsTurned request purse answer
turned_as request asked purse held answer same own turned =
    subst (λ (r : Request). IsTurned r purse answer) same (subst (λ (p : SeatedView). IsTurned asked p answer) own turned)
