use Rattle.std.proofs.Common.{[]}
use Rattle.tpcc_show.specs.Dump.{records_text}
use Rattle.tpcc_show.specs.Internal.Dump.{records_from}
use Rattle.tpcc_show.proofs.table_dump.dumping.rows_text.Goals as goal

pub returns : goal.returns
returns c =
    c.finish.ensures (records_text (records_from c.args.tables.now.rows c.args.table c.args.from c.args.count))
    (c.in_ok-take_rows.ensures [] c.start-writer.ensures)
