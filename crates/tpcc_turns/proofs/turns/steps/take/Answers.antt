use Rattle.std.proofs.Common.{ap}
use Rattle.tpcc_turns.proofs.Serves.{taken_of}
use Rattle.tpcc_turns.proofs.turns.steps.take.Goals as goal

pub returns-clause-taken : goal.returns-clause-taken
returns-clause-taken g c =
    let d = c.draw-ticket.ensures.drawn in
    taken_of c.args.seat.now.me c.draw-ticket.new.seat.me c.wait.new.seat.me c.draw-ticket.result c.requires.idle.2 d (c.wait.ensures.called d.ticket (ap (λ m. m.0.stage) d.now_is))
