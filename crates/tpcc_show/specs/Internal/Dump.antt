-- The records of some rows of a table.
use Rattle.std.specs.Prelude.{ℕ, List, map, take, drop}
use Rattle.tpcc_rows.specs.declared.tables.row.Table.{Table}
use Rattle.tpcc_rows.specs.Tables.{Rows}
use Rattle.tpcc_show.specs.Records.{record_of}
use Rattle.tpcc_show.specs.Dump.{rows_of}

-- the records of so many rows from a place on
abbrev pub records_from : Rows → Table → ℕ → ℕ → List (List (List ℕ))
records_from rows table from count = map record_of (take count (drop from (rows_of rows table)))
