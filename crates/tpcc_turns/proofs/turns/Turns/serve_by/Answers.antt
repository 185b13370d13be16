use Rattle.std.proofs.Common.{ap, sym, subst}
use Rattle.tpcc_turns.specs.Seats.{IsTurned, SeatedView}
use Rattle.tpcc_book.specs.AnswerView.{AnswerView}
use Rattle.tpcc_turns.proofs.Serves.{turned_of, ending_of}
use Rattle.tpcc_turns.proofs.turns.Turns.serve_by.Goals as goal

pub end-requires-clause-holds : goal.end-requires-clause-holds
end-requires-clause-holds g c =
    ending_of c.into_seat-purse.result.1.me c.take-ticket.new.seat.me c.serve-answer.new.seat.me c.take-ticket.result c.args.request c.into_seat-purse.result.0 c.serve-answer.result c.take-ticket.ensures.taken c.serve-answer.ensures.served

pub returns : goal.returns
returns g c =
    let here = c.serve-answer.ensures.served in
    let told = turned_of c.into_seat-purse.result.0 c.args.purse c.into_seat-purse.result.1.me c.take-ticket.new.seat.me c.serve-answer.new.seat.me c.end.new.seat.me c.take-ticket.result c.serve-answer.result c.args.request c.into_seat-purse.ensures.purse c.into_seat-purse.ensures.seat c.take-ticket.ensures.taken here (c.end.ensures.ended here.new (ap (λ m. m.1) here.now_is)) in
    record { turned = subst (λ (t : AnswerView SeatedView). IsTurned c.args.request c.args.purse t) (sym c.carried_with.ensures.carried) told }
