use Rattle.std.proofs.Common.{arith, ◌∙◌, ◌++◌}
use Rattle.tpcc_text.specs.Prefix.{AppendsPrefix}
use Rattle.tpcc_text.proofs.BlockSteps.{at_fault}
use Rattle.tpcc_show.proofs.Row.{all_text, put_more, put_whole, cut_before, cut_within}
use Rattle.tpcc_show.proofs.table_dump.dumping.put_rows.Goals as goal

pub returns-in_err-bytes-clause-part : goal.returns-in_err-bytes-clause-part
returns-in_err-bytes-clause-part g c =
    at_fault (AppendsPrefix (g.W.Write.contents c.args.out.now) (g.W.Write.contents c.writes.out) (c.args.blocks.now ++ all_text c.args.tables.now.rows c.args.table)) c.from_residual.result
    (cut_before c.args.tables.now.rows c.args.table c.writes.done (g.W.Write.contents c.args.out.now) (g.W.Write.contents c.writes.out) c.args.blocks.now c.writes.blocks c.writes.invariant.written)

pub returns-in_err-put-clause-part : goal.returns-in_err-put-clause-part
returns-in_err-put-clause-part g c =
    at_fault (AppendsPrefix (g.W.Write.contents c.args.out.now) (g.W.Write.contents c.put.new.out) (c.args.blocks.now ++ all_text c.args.tables.now.rows c.args.table)) c.from_residual-in_err-put.result
    (cut_within c.args.tables.now.rows c.args.table c.writes.done c.min-count.result (g.W.Write.contents c.args.out.now) (g.W.Write.contents c.writes.out) (g.W.Write.contents c.put.new.out) c.args.blocks.now c.writes.blocks c.as_slice.result.now
    c.writes.invariant.written (c.as_slice.ensures.value ∙ c.in_ok-bytes.ensures) c.in_err-put.ensures.part)

pub writes-preserved : goal.writes-preserved
writes-preserved g c = record {
  within = omega (arith, c.min-count.ensures, c.writes.invariant.within, c.writes-test.true);
  written =
      put_more c.args.tables.now.rows c.args.table c.writes.done c.min-count.result (g.W.Write.contents c.args.out.now) (g.W.Write.contents c.writes.out) (g.W.Write.contents c.put.new.out) c.args.blocks.now c.writes.blocks c.put.new.self c.as_slice.result.now
      c.writes.invariant.written (c.as_slice.ensures.value ∙ c.in_ok-bytes.ensures) c.in_ok-put.ensures.written;
}

pub returns-clause-written : goal.returns-clause-written
returns-clause-written g c =
    put_whole c.args.tables.now.rows c.args.table c.writes.done (g.W.Write.contents c.args.out.now) (g.W.Write.contents c.writes.out) c.args.blocks.now c.writes.blocks
    (omega (arith, c.count-end.ensures, c.writes-test.false)) c.writes.invariant.written
