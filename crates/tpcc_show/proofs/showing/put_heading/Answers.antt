use Rattle.std.proofs.Common.{codes, ◌++◌}
use Rattle.tpcc_text.specs.Prefix.{AppendsPrefix}
use Rattle.tpcc_text.proofs.BlockSteps.{at_fault, cut_first}
use Rattle.tpcc_show.specs.Internal.Shown.{heading, named_line}
use Rattle.tpcc_text.proofs.BlockSteps.{both, both_cut}
use Rattle.tpcc_show.proofs.showing.put_heading.Goals as goal

pub returns-in_err-put_bytes-clause-part : goal.returns-in_err-put_bytes-clause-part
returns-in_err-put_bytes-clause-part g c =
    at_fault (AppendsPrefix (g.W.Write.contents c.args.out.now) (g.W.Write.contents c.put_bytes.new.out) (c.args.blocks.now ++ heading c.args.part)) c.from_residual.result
    (cut_first (g.W.Write.contents c.args.out.now) (g.W.Write.contents c.put_bytes.new.out) c.args.blocks.now (codes "== ") (named_line c.args.part) c.in_err-put_bytes.ensures.part)

pub returns-clause-written : goal.returns-clause-written
returns-clause-written g c =
    both (g.W.Write.contents c.args.out.now) (g.W.Write.contents c.put_bytes.new.out) (g.W.Write.contents c.put_name.new.out) c.args.blocks.now (codes "== ") (named_line c.args.part) c.put_bytes.new.blocks c.put_name.new.blocks c.put_name.result
    c.in_ok-put_bytes.ensures.written c.put_name.ensures.written

pub returns-clause-part : goal.returns-clause-part
returns-clause-part g c =
    both_cut (g.W.Write.contents c.args.out.now) (g.W.Write.contents c.put_bytes.new.out) (g.W.Write.contents c.put_name.new.out) c.args.blocks.now (codes "== ") (named_line c.args.part) c.put_bytes.new.blocks c.put_name.result
    c.in_ok-put_bytes.ensures.written c.put_name.ensures.part
