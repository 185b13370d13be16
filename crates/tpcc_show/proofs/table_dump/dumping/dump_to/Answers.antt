use Rattle.tpcc_text.specs.Prefix.{AppendsPrefix}
use Rattle.tpcc_show.specs.Dump.{dump_text}
use Rattle.tpcc_text.proofs.BlockSteps.{at_fault, ends_part, ends_whole}
use Rattle.tpcc_show.proofs.table_dump.dumping.dump_to.Goals as goal

pub returns-in_err-end-clause-part : goal.returns-in_err-end-clause-part
returns-in_err-end-clause-part g c =
    let put = rw c.new-blocks.ensures at c.in_ok-put_dump.ensures.written in
    at_fault (AppendsPrefix (g.W.Write.contents c.args.out.now) (g.W.Write.contents c.end.new.out) (dump_text c.args.tables.now.rows c.args.table)) c.from_residual-in_err-end.result
    (ends_part (g.W.Write.contents c.args.out.now) (g.W.Write.contents c.put_dump.new.out) (g.W.Write.contents c.end.new.out) (dump_text c.args.tables.now.rows c.args.table) c.put_dump.new.blocks
    put c.in_err-end.ensures.part)

pub returns-clause-written : goal.returns-clause-written
returns-clause-written g c =
    let put = rw c.new-blocks.ensures at c.in_ok-put_dump.ensures.written in
    ends_whole (g.W.Write.contents c.args.out.now) (g.W.Write.contents c.put_dump.new.out) (g.W.Write.contents c.end.new.out) (dump_text c.args.tables.now.rows c.args.table) c.put_dump.new.blocks
    put c.in_ok-end.ensures.written
