use Rattle.std.proofs.Common.{◌++◌, ◌∙◌, Some, ap, sym}
use Rattle.std.proofs.lemmas.Option.{slice_get-get_or}
use Rattle.tpcc_text.specs.Prefix.{AppendsPrefix}
use Rattle.tpcc_text.proofs.BlockSteps.{at_fault}
use Rattle.tpcc_show.proofs.Putting.{put_next, cut_next}
use Rattle.tpcc_run.specs.ShownRun.{receipt_line, receipt_lines}
use Rattle.tpcc_run.proofs.receipt_lines.put_lines.Goals as goal

pub returns-in_err-put_line-clause-part : goal.returns-in_err-put_line-clause-part
returns-in_err-put_line-clause-part g c =
    at_fault (AppendsPrefix (g.W.Write.contents c.args.out.now) (g.W.Write.contents c.put_line.new.out) (c.args.blocks.now ++ receipt_lines c.args.receipts.now)) c.from_residual.result
    (cut_next receipt_line c.args.receipts.now c.loop-receipt.receipt-index c.receipt-item.result (g.W.Write.contents c.args.out.now) (g.W.Write.contents c.loop-receipt.out) (g.W.Write.contents c.put_line.new.out) c.args.blocks.now c.loop-receipt.blocks
    (slice_get-get_or c.args.receipts.now c.loop-receipt.receipt-index c.receipt-item.result c.loop-receipt-test.true ∙ ap Some (sym c.receipt-item.is)) c.loop-receipt.invariant c.in_err-put_line.ensures.part)

pub loop-receipt-preserved : goal.loop-receipt-preserved
loop-receipt-preserved g c =
    put_next receipt_line c.args.receipts.now c.loop-receipt.receipt-index c.receipt-item.result (g.W.Write.contents c.args.out.now) (g.W.Write.contents c.loop-receipt.out) (g.W.Write.contents c.put_line.new.out) c.args.blocks.now c.loop-receipt.blocks c.put_line.new.blocks
    (slice_get-get_or c.args.receipts.now c.loop-receipt.receipt-index c.receipt-item.result c.loop-receipt-test.true ∙ ap Some (sym c.receipt-item.is)) c.loop-receipt.invariant c.in_ok-put_line.ensures.written
