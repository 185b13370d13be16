use Rattle.tpcc_text.proofs.BlockSteps.{put_behind, broken_behind}
use Rattle.tpcc_text.proofs.blocks.Blocks.put.Goals as goal

pub returns-clause-written : goal.returns-clause-written
returns-clause-written g c =
    put_behind (g.W.Write.contents c.args.out.now) (g.W.Write.contents c.end.new.out) (g.W.Write.contents c.put_all.new.out) c.args.self.now c.holds.new.self c.args.bytes.now c.end.new.self c.holds-2.new.self c.put_all.result
    c.if-holds.ensures c.in_ok-end.ensures.none c.if-holds-2.ensures c.in_ok-end.ensures.written c.put_all.ensures.written

pub returns-clause-part : goal.returns-clause-part
returns-clause-part g c =
    broken_behind (g.W.Write.contents c.args.out.now) (g.W.Write.contents c.end.new.out) (g.W.Write.contents c.put_all.new.out) c.args.self.now c.holds.new.self c.args.bytes.now c.put_all.result
    c.if-holds.ensures c.in_ok-end.ensures.written c.put_all.ensures.part
