use Rattle.std.proofs.Common.{◌≡◌, ◌∙◌, ◌++◌, [], ap, map, subst}
use Rattle.csv.specs.Writing.{default_writer, row_text}
use Rattle.tpcc_show.specs.Columns.{columns}
use Rattle.tpcc_show.specs.Internal.Output.{HasTakenText}
use Rattle.tpcc_show.proofs.table_dump.dumping.columns_text.Goals as goal

pub returns : goal.returns
returns c =
    let names : c.put_names.new.self ≡ columns c.args.table =
    c.in_ok-put_names.ensures ∙ ap (λ z. z ++ map (λ name. name.now) c.columns.result.now) c.requires ∙ c.columns.ensures in
    let taken = c.in_ok-put.ensures [] c.start-writer.ensures in
    c.finish.ensures (row_text default_writer (columns c.args.table)) (subst (λ z. HasTakenText (row_text default_writer z) c.put.new.writer) names taken)
