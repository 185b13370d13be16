use Rattle.std.proofs.Common.{[], ◌∷◌, ◌++◌, sym}
use Rattle.tpcc_text.specs.Prefix.{AppendsPrefix}
use Rattle.tpcc_text.proofs.BlockSteps.{at_fault, cut_first}
use Rattle.tpcc_text.proofs.BlockSteps.{both, both_cut}
use Rattle.tpcc_show.proofs.showing.put_name.Goals as goal

pub returns-in_err-put_bytes-clause-part : goal.returns-in_err-put_bytes-clause-part
returns-in_err-put_bytes-clause-part g c =
    let name = c.name.result.now in
    rw (sym c.name.ensures.name) (at_fault (AppendsPrefix (g.W.Write.contents c.args.out.now) (g.W.Write.contents c.put_bytes.new.out) (c.args.blocks.now ++ (name ++ 10 ∷ []))) c.from_residual.result
    (cut_first (g.W.Write.contents c.args.out.now) (g.W.Write.contents c.put_bytes.new.out) c.args.blocks.now name (10 ∷ []) c.in_err-put_bytes.ensures.part))

pub returns-clause-written : goal.returns-clause-written
returns-clause-written g c =
    rw (sym c.name.ensures.name)
    (both (g.W.Write.contents c.args.out.now) (g.W.Write.contents c.put_bytes.new.out) (g.W.Write.contents c.put_bytes-2.new.out) c.args.blocks.now c.name.result.now (10 ∷ []) c.put_bytes.new.blocks c.put_bytes-2.new.blocks c.put_bytes-2.result
    c.in_ok-put_bytes.ensures.written c.put_bytes-2.ensures.written)

pub returns-clause-part : goal.returns-clause-part
returns-clause-part g c =
    rw (sym c.name.ensures.name)
    (both_cut (g.W.Write.contents c.args.out.now) (g.W.Write.contents c.put_bytes.new.out) (g.W.Write.contents c.put_bytes-2.new.out) c.args.blocks.now c.name.result.now (10 ∷ []) c.put_bytes.new.blocks c.put_bytes-2.result
    c.in_ok-put_bytes.ensures.written c.put_bytes-2.ensures.part)
