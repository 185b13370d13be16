use Rattle.std.proofs.Common.{◌≡◌, ◌++◌, take}
use Rattle.indexmap.specs.IndexMap.{values}
use Rattle.tpcc_storage.specs.Internal.KeyedRows.{AreUnderKeys}
use Rattle.tpcc_storage.proofs.keyed_rows.push_all.Given as goal

abbrev pub invariant-loop-row : goal.invariant-loop-row
invariant-loop-row g l = record {
  rows : values l.rows ≡ values l.initial.rows ++ take l.row-index l.more;
  kept : AreUnderKeys g.T.KeyedRow.key g.T.KeyedRow.numbers l.rows.entries;
}
