use Rattle.std.proofs.Common.{◌++◌}
use Rattle.tpcc_text.specs.Prefix.{AppendsPrefix}
use Rattle.tpcc_text.proofs.BlockSteps.{at_fault}
use Rattle.tpcc_program.specs.Requests.{request_lines}
use Rattle.tpcc_program.specs.Internal.Requests.{asked_next}
use Rattle.tpcc_program.proofs.NextRequests.{is_cut}
use Rattle.tpcc_program.proofs.requests.put_cards.Goals as goal

pub returns-in_err-put_next-clause-part : goal.returns-in_err-put_next-clause-part
returns-in_err-put_next-clause-part g c =
    at_fault (AppendsPrefix (g.W.Write.contents c.args.out.now) (g.W.Write.contents c.put_next.new.out) (c.args.blocks.now ++ request_lines (asked_next c.args.terminal.now c.args.moment c.args.cards))) c.from_residual.result
    (is_cut c.args.terminal.now c.args.moment c.args.cards c.loop.counter (g.W.Write.contents c.args.out.now) (g.W.Write.contents c.loop.out) (g.W.Write.contents c.put_next.new.out) c.args.blocks.now c.loop.blocks c.loop.terminal
    c.loop.invariant c.loop-test.true c.in_err-put_next.ensures.part)
