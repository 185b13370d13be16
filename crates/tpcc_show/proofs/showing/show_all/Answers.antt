use Rattle.std.proofs.Common.{◌++◌}
use Rattle.std.specs.Prelude.{flat_map}
use Rattle.std.proofs.lemmas.Option.{slice_get-get_or}
use Rattle.tpcc_text.specs.Prefix.{AppendsPrefix}
use Rattle.tpcc_text.proofs.BlockSteps.{at_fault}
use Rattle.tpcc_show.specs.Shown.{headed_text}
use Rattle.tpcc_show.proofs.Putting.{put_next, cut_next}
use Rattle.tpcc_show.proofs.showing.show_all.Goals as goal

pub returns-in_err-show_headed-clause-part : goal.returns-in_err-show_headed-clause-part
returns-in_err-show_headed-clause-part g c =
    let shown = headed_text (g.B.ShownBook.text c.args.book.now) in
    at_fault (AppendsPrefix (g.W.Write.contents c.args.out.now) (g.W.Write.contents c.show_headed.new.out) (c.args.blocks.now ++ flat_map shown c.args.parts.now)) c.from_residual.result
    (cut_next shown c.args.parts.now c.loop-part.part-index _ (g.W.Write.contents c.args.out.now) (g.W.Write.contents c.loop-part.out) (g.W.Write.contents c.show_headed.new.out) c.args.blocks.now c.loop-part.blocks
    (slice_get-get_or c.args.parts.now c.loop-part.part-index _ c.loop-part-test.true) c.loop-part.invariant c.in_err-show_headed.ensures.part)

pub loop-part-preserved : goal.loop-part-preserved
loop-part-preserved g c =
    put_next (headed_text (g.B.ShownBook.text c.args.book.now)) c.args.parts.now c.loop-part.part-index _ (g.W.Write.contents c.args.out.now) (g.W.Write.contents c.loop-part.out) (g.W.Write.contents c.show_headed.new.out) c.args.blocks.now c.loop-part.blocks c.show_headed.new.blocks
    (slice_get-get_or c.args.parts.now c.loop-part.part-index _ c.loop-part-test.true) c.loop-part.invariant c.in_ok-show_headed.ensures.written
