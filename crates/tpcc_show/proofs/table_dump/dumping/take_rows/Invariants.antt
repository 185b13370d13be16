use Rattle.std.proofs.Common.{◌++◌, ℕ, List}
use Rattle.tpcc_show.specs.Dump.{records_text}
use Rattle.tpcc_show.specs.Internal.Dump.{records_from}
use Rattle.tpcc_show.specs.Internal.Output.{HasTakenText}
use Rattle.tpcc_show.proofs.table_dump.dumping.take_rows.Given as goal

abbrev pub invariant-loop-place : goal.invariant-loop-place
invariant-loop-place l = (text : List ℕ) → HasTakenText text l.fn.writer
    → HasTakenText (text ++ records_text (records_from l.tables.rows l.table l.from l.place)) l.writer
