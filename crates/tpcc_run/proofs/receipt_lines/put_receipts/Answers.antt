use Rattle.std.proofs.Common.{codes, [], ◌∷◌, ◌++◌}
use Rattle.tpcc_text.specs.Prefix.{AppendsPrefix}
use Rattle.tpcc_text.proofs.BlockSteps.{at_fault, both, both_cut, cut_first}
use Rattle.tpcc_audit.specs.Settlement.{all_receipts}
use Rattle.tpcc_run.specs.ShownRun.{receipt_lines, receipts_text}
use Rattle.tpcc_run.proofs.ReceiptLines.{lines_of_all}
use Rattle.tpcc_run.proofs.receipt_lines.put_receipts.Goals as goal

pub returns-in_err-put-clause-part : goal.returns-in_err-put-clause-part
returns-in_err-put-clause-part g c =
    at_fault (AppendsPrefix (g.W.Write.contents c.args.out.now) (g.W.Write.contents c.put.new.out) (c.args.blocks.now ++ receipts_text (all_receipts c.args.receipts.now))) c.from_residual.result
    (cut_first (g.W.Write.contents c.args.out.now) (g.W.Write.contents c.put.new.out) c.args.blocks.now (codes "terminal,number,place,request" ++ (10 ∷ [])) (receipt_lines (all_receipts c.args.receipts.now)) c.in_err-put.ensures.part)

pub returns-clause-written : goal.returns-clause-written
returns-clause-written g c =
    both (g.W.Write.contents c.args.out.now) (g.W.Write.contents c.put.new.out) (g.W.Write.contents c.put_all.new.out) c.args.blocks.now (codes "terminal,number,place,request" ++ (10 ∷ [])) (receipt_lines (all_receipts c.args.receipts.now)) c.put.new.self c.put_all.new.blocks c.put_all.result
    c.in_ok-put.ensures.written (rw lines_of_all at c.put_all.ensures.written)

pub returns-clause-part : goal.returns-clause-part
returns-clause-part g c =
    both_cut (g.W.Write.contents c.args.out.now) (g.W.Write.contents c.put.new.out) (g.W.Write.contents c.put_all.new.out) c.args.blocks.now (codes "terminal,number,place,request" ++ (10 ∷ [])) (receipt_lines (all_receipts c.args.receipts.now)) c.put.new.self c.put_all.result
    c.in_ok-put.ensures.written (rw lines_of_all at c.put_all.ensures.part)
