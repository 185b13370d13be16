use Rattle.std.proofs.Common.{◌≡◌, take}
use Rattle.tpcc_storage.proofs.by_district.range.OrderRange.of_rows.Given as goal

abbrev pub invariant-loop-row : goal.invariant-loop-row
invariant-loop-row l = record {
  so_far : l.range ≡ take l.row-index l.rows;
}
