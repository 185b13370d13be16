use Rattle.tpcc_text.specs.Prefix.{AppendsPrefix}
use Rattle.tpcc_text.proofs.BlockSteps.{at_fault}
use Rattle.tpcc_program.specs.Requests.{asked_by, request_lines}
use Rattle.tpcc_program.proofs.NextRequests.{first_cards, first_cut, last_cut}
use Rattle.tpcc_program.proofs.requests.put_requests.Goals as goal

pub returns-in_err-put_cards-clause-part : goal.returns-in_err-put_cards-clause-part
returns-in_err-put_cards-clause-part g c =
    at_fault (AppendsPrefix (g.W.Write.contents c.args.out.now) (g.W.Write.contents c.put_cards.new.out) (request_lines (asked_by c.args.number c.args.scale c.args.seed c.args.moment c.args.cards))) c.from_residual-in_err-put_cards.result
    (first_cut c.args.number c.args.scale c.args.seed c.args.moment c.args.cards (g.W.Write.contents c.args.out.now) (g.W.Write.contents c.put_cards.new.out) c.in_ok-terminal.terminal c.in_ok-terminal.ensures.started
    (rw c.new-blocks.ensures at c.in_err-put_cards.ensures.part))

pub returns-in_err-end-clause-part : goal.returns-in_err-end-clause-part
returns-in_err-end-clause-part g c =
    at_fault (AppendsPrefix (g.W.Write.contents c.args.out.now) (g.W.Write.contents c.end.new.out) (request_lines (asked_by c.args.number c.args.scale c.args.seed c.args.moment c.args.cards))) c.from_residual-in_err-end.result
    (last_cut c.args.number c.args.scale c.args.seed c.args.moment c.args.cards (g.W.Write.contents c.args.out.now) (g.W.Write.contents c.put_cards.new.out) (g.W.Write.contents c.end.new.out) c.put_cards.new.blocks c.in_ok-terminal.terminal c.in_ok-terminal.ensures.started
    (rw c.new-blocks.ensures at c.in_ok-put_cards.ensures.written) c.in_err-end.ensures.part)

pub returns-clause-written : goal.returns-clause-written
returns-clause-written g c =
    first_cards c.args.number c.args.scale c.args.seed c.args.moment c.args.cards (g.W.Write.contents c.args.out.now) (g.W.Write.contents c.put_cards.new.out) (g.W.Write.contents c.end.new.out) c.put_cards.new.blocks c.in_ok-terminal.terminal c.in_ok-terminal.ensures.started
    (rw c.new-blocks.ensures at c.in_ok-put_cards.ensures.written) c.in_ok-end.ensures.written
