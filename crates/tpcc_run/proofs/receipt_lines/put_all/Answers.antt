use Rattle.std.proofs.Common.{◌++◌, ◌∙◌, Some, ap, sym}
use Rattle.std.specs.Prelude.{flat_map}
use Rattle.std.proofs.lemmas.Option.{slice_get-get_or}
use Rattle.tpcc_text.specs.Prefix.{AppendsPrefix}
use Rattle.tpcc_text.proofs.BlockSteps.{at_fault}
use Rattle.tpcc_show.proofs.Putting.{put_next, cut_next}
use Rattle.tpcc_run.specs.ShownRun.{receipt_lines}
use Rattle.tpcc_run.proofs.receipt_lines.put_all.Goals as goal

pub returns-in_err-put_lines-clause-part : goal.returns-in_err-put_lines-clause-part
returns-in_err-put_lines-clause-part g c =
    at_fault (AppendsPrefix (g.W.Write.contents c.args.out.now) (g.W.Write.contents c.put_lines.new.out) (c.args.blocks.now ++ flat_map (λ held. receipt_lines held.items) c.args.receipts.now)) c.from_residual.result
    (cut_next (λ held. receipt_lines held.items) c.args.receipts.now c.loop-held.held-index c.held-item.result (g.W.Write.contents c.args.out.now) (g.W.Write.contents c.loop-held.out) (g.W.Write.contents c.put_lines.new.out) c.args.blocks.now c.loop-held.blocks
    (slice_get-get_or c.args.receipts.now c.loop-held.held-index c.held-item.result c.loop-held-test.true ∙ ap Some (sym c.held-item.is)) c.loop-held.invariant (rw c.as_slice.ensures.value at c.in_err-put_lines.ensures.part))

pub loop-held-preserved : goal.loop-held-preserved
loop-held-preserved g c =
    put_next (λ held. receipt_lines held.items) c.args.receipts.now c.loop-held.held-index c.held-item.result (g.W.Write.contents c.args.out.now) (g.W.Write.contents c.loop-held.out) (g.W.Write.contents c.put_lines.new.out) c.args.blocks.now c.loop-held.blocks c.put_lines.new.blocks
    (slice_get-get_or c.args.receipts.now c.loop-held.held-index c.held-item.result c.loop-held-test.true ∙ ap Some (sym c.held-item.is)) c.loop-held.invariant (rw c.as_slice.ensures.value at c.in_ok-put_lines.ensures.written)
