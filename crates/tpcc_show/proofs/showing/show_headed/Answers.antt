use Rattle.std.proofs.Common.{◌++◌}
use Rattle.tpcc_text.specs.Prefix.{AppendsPrefix}
use Rattle.tpcc_text.proofs.BlockSteps.{at_fault}
use Rattle.tpcc_show.specs.Names.{part_name}
use Rattle.tpcc_show.specs.Shown.{headed_text}
use Rattle.tpcc_show.proofs.Putting.{part_with_heading, headed_cut, heading_cut}
use Rattle.tpcc_show.proofs.showing.show_headed.Goals as goal

pub returns-in_err-put_heading-clause-part : goal.returns-in_err-put_heading-clause-part
unfolding headed_text
returns-in_err-put_heading-clause-part g c =
    let text = g.B.ShownBook.text c.args.book.now in
    at_fault (AppendsPrefix (g.W.Write.contents c.args.out.now) (g.W.Write.contents c.put_heading.new.out) (c.args.blocks.now ++ headed_text text c.args.part)) c.from_residual.result
    (heading_cut (g.W.Write.contents c.args.out.now) (g.W.Write.contents c.put_heading.new.out) c.args.blocks.now (part_name c.args.part) (text c.args.part) c.in_err-put_heading.ensures.part)

pub returns-clause-written : goal.returns-clause-written
unfolding headed_text
returns-clause-written g c =
    part_with_heading (g.W.Write.contents c.args.out.now) (g.W.Write.contents c.put_heading.new.out) (g.W.Write.contents c.put_part.new.out) c.args.blocks.now (part_name c.args.part) (g.B.ShownBook.text c.args.book.now c.args.part) c.put_heading.new.blocks c.put_part.new.blocks c.put_part.result
    c.in_ok-put_heading.ensures.written c.put_part.ensures.written

pub returns-clause-part : goal.returns-clause-part
unfolding headed_text
returns-clause-part g c =
    headed_cut (g.W.Write.contents c.args.out.now) (g.W.Write.contents c.put_heading.new.out) (g.W.Write.contents c.put_part.new.out) c.args.blocks.now (part_name c.args.part) (g.B.ShownBook.text c.args.book.now c.args.part) c.put_heading.new.blocks c.put_part.result
    c.in_ok-put_heading.ensures.written c.put_part.ensures.part
