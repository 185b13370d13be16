use Rattle.std.proofs.Common.{◌++◌}
use Rattle.tpcc_text.specs.Prefix.{AppendsPrefix}
use Rattle.tpcc_text.proofs.BlockSteps.{at_fault, none_part}
use Rattle.tpcc_program.specs.Internal.Requests.{next_line}
use Rattle.tpcc_program.proofs.requests.put_next.Goals as goal

pub returns-in_err-request-clause-part : goal.returns-in_err-request-clause-part
returns-in_err-request-clause-part g c =
    at_fault (AppendsPrefix (g.W.Write.contents c.args.out.now) (g.W.Write.contents c.args.out.now) (c.args.blocks.now ++ next_line c.args.terminal.now c.args.moment)) c.from_residual.result
    (none_part (g.W.Write.contents c.args.out.now) (c.args.blocks.now ++ next_line c.args.terminal.now c.args.moment))
