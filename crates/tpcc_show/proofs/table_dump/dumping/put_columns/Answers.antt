use Rattle.std.proofs.Common.{◌∙◌, ◌++◌, subst}
use Rattle.csv.specs.Writing.{default_writer, row_text}
use Rattle.tpcc_show.specs.Columns.{columns}
use Rattle.tpcc_text.specs.Prefix.{AppendsPrefix, PassesBytes}
use Rattle.tpcc_text.proofs.BlockSteps.{at_fault, none_part}
use Rattle.tpcc_show.proofs.table_dump.dumping.put_columns.Goals as goal

pub returns-in_err-bytes-clause-part : goal.returns-in_err-bytes-clause-part
returns-in_err-bytes-clause-part g c =
    at_fault (AppendsPrefix (g.W.Write.contents c.args.out.now) (g.W.Write.contents c.args.out.now) (c.args.blocks.now ++ row_text default_writer (columns c.args.table))) c.from_residual.result
    (none_part (g.W.Write.contents c.args.out.now) (c.args.blocks.now ++ row_text default_writer (columns c.args.table)))

pub returns-in_err-put-clause-part : goal.returns-in_err-put-clause-part
returns-in_err-put-clause-part g c =
    at_fault (AppendsPrefix (g.W.Write.contents c.args.out.now) (g.W.Write.contents c.put.new.out) (c.args.blocks.now ++ row_text default_writer (columns c.args.table))) c.from_residual-in_err-put.result
    (subst (λ z. AppendsPrefix (g.W.Write.contents c.args.out.now) (g.W.Write.contents c.put.new.out) (c.args.blocks.now ++ z)) (c.as_slice.ensures.value ∙ c.in_ok-bytes.ensures) c.in_err-put.ensures.part)

pub returns-clause-written : goal.returns-clause-written
returns-clause-written g c =
    subst (λ z. PassesBytes (g.W.Write.contents c.args.out.now) (g.W.Write.contents c.put.new.out) (c.args.blocks.now ++ z) c.put.new.self) (c.as_slice.ensures.value ∙ c.in_ok-bytes.ensures) c.in_ok-put.ensures.written
