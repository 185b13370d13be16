use Rattle.std.proofs.Common.{◌++◌}
use Rattle.tpcc_text.specs.Prefix.{AppendsPrefix}
use Rattle.tpcc_text.specs.RequestLines.{request_line}
use Rattle.tpcc_text.proofs.BlockSteps.{at_fault, both, both_cut, cut_first}
use Rattle.tpcc_run.specs.ShownRun.{receipt_line, receipt_numbers}
use Rattle.tpcc_run.proofs.receipt_lines.put_line.Goals as goal

pub returns-in_err-put_numbers-clause-part : goal.returns-in_err-put_numbers-clause-part
returns-in_err-put_numbers-clause-part g c =
    at_fault (AppendsPrefix (g.W.Write.contents c.args.out.now) (g.W.Write.contents c.put_numbers.new.out) (c.args.blocks.now ++ receipt_line c.args.receipt.now)) c.from_residual.result
    (cut_first (g.W.Write.contents c.args.out.now) (g.W.Write.contents c.put_numbers.new.out) c.args.blocks.now (receipt_numbers c.args.receipt.now) (request_line c.args.receipt.now.request) c.in_err-put_numbers.ensures.part)

pub returns-clause-written : goal.returns-clause-written
returns-clause-written g c =
    both (g.W.Write.contents c.args.out.now) (g.W.Write.contents c.put_numbers.new.out) (g.W.Write.contents c.put_screen.new.out) c.args.blocks.now (receipt_numbers c.args.receipt.now) (request_line c.args.receipt.now.request) c.put_numbers.new.blocks c.put_screen.new.blocks c.put_screen.result
    c.in_ok-put_numbers.ensures.written (c.put_screen.ensures.written _ c.request_line.ensures)

pub returns-clause-part : goal.returns-clause-part
returns-clause-part g c =
    both_cut (g.W.Write.contents c.args.out.now) (g.W.Write.contents c.put_numbers.new.out) (g.W.Write.contents c.put_screen.new.out) c.args.blocks.now (receipt_numbers c.args.receipt.now) (request_line c.args.receipt.now.request) c.put_numbers.new.blocks c.put_screen.result
    c.in_ok-put_numbers.ensures.written (c.put_screen.ensures.part _ c.request_line.ensures)
