use Rattle.std.proofs.Common.{◌≡◌, ◌+◌, take}
use Rattle.tpcc_rows.specs.Lists.{by_key, inserted_all}
use Rattle.tpcc_storage.proofs.by_district.ByDistrict.append_all.Given as goal

abbrev pub invariant-loop-row : goal.invariant-loop-row
invariant-loop-row g l = record {
  rows : l.self.rows ≡ inserted_all (by_key g.T.KeyedRow.key) (take l.row-index l.rows) l.fn.self.rows;
  owners : l.self.owners ≡ l.fn.self.owners;
  room : l.self.room + l.row-index ≡ l.fn.self.room;
}
