use Rattle.std.proofs.Common.{◌++◌}
use Rattle.csv.specs.Writing.{default_writer, row_text}
use Rattle.tpcc_show.specs.Columns.{columns}
use Rattle.tpcc_show.specs.Dump.{dump_text}
use Rattle.tpcc_text.specs.Prefix.{AppendsPrefix}
use Rattle.tpcc_text.proofs.BlockSteps.{at_fault, both, both_cut, cut_first}
use Rattle.tpcc_show.proofs.Row.{all_text}
use Rattle.tpcc_show.proofs.table_dump.dumping.put_dump.Goals as goal

pub returns-in_err-put_columns-clause-part : goal.returns-in_err-put_columns-clause-part
returns-in_err-put_columns-clause-part g c =
    at_fault (AppendsPrefix (g.W.Write.contents c.args.out.now) (g.W.Write.contents c.put_columns.new.out) (c.args.blocks.now ++ dump_text c.args.tables.now.rows c.args.table)) c.from_residual.result
    (cut_first (g.W.Write.contents c.args.out.now) (g.W.Write.contents c.put_columns.new.out) c.args.blocks.now (row_text default_writer (columns c.args.table)) (all_text c.args.tables.now.rows c.args.table) c.in_err-put_columns.ensures.part)

pub returns-clause-written : goal.returns-clause-written
returns-clause-written g c =
    both (g.W.Write.contents c.args.out.now) (g.W.Write.contents c.put_columns.new.out) (g.W.Write.contents c.put_rows.new.out) c.args.blocks.now (row_text default_writer (columns c.args.table)) (all_text c.args.tables.now.rows c.args.table) c.put_columns.new.blocks c.put_rows.new.blocks c.put_rows.result
    c.in_ok-put_columns.ensures.written c.put_rows.ensures.written

pub returns-clause-part : goal.returns-clause-part
returns-clause-part g c =
    both_cut (g.W.Write.contents c.args.out.now) (g.W.Write.contents c.put_columns.new.out) (g.W.Write.contents c.put_rows.new.out) c.args.blocks.now (row_text default_writer (columns c.args.table)) (all_text c.args.tables.now.rows c.args.table) c.put_columns.new.blocks c.put_rows.result
    c.in_ok-put_columns.ensures.written c.put_rows.ensures.part
