use Rattle.std.proofs.Common.{◌≤◌, ◌-◌, ◌++◌, map, take}
use Rattle.tpcc_show.specs.Dump.{records_text, rows_of}
use Rattle.tpcc_text.specs.Prefix.{PassesBytes}
use Rattle.tpcc_show.specs.Records.{record_of}
use Rattle.tpcc_show.proofs.table_dump.dumping.put_rows.Given as goal

abbrev pub invariant-writes : goal.invariant-writes
invariant-writes g l = record {
  within : l.done ≤ l.end;
  written : PassesBytes (g.W.Write.contents l.initial.out) (g.W.Write.contents l.out) (l.initial.blocks ++ records_text (map record_of (take l.done (rows_of l.tables.rows l.table)))) l.blocks;
}

abbrev pub decreases-writes : goal.decreases-writes
decreases-writes g l = l.end - l.done
