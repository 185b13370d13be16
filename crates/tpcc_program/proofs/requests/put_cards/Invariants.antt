use Rattle.tpcc_program.proofs.NextRequests.{SoFar}
use Rattle.tpcc_program.proofs.requests.put_cards.Given as goal

abbrev pub invariant-loop : goal.invariant-loop
invariant-loop g l = SoFar l.fn.terminal l.fn.moment l.fn.cards l.counter (g.W.Write.contents l.fn.out) (g.W.Write.contents l.out) l.fn.blocks l.blocks l.terminal
