use Rattle.std.proofs.Common.{◌≡◌, ◌≤◌, ◌++◌, take}
use Rattle.std.specs.Prelude.{vec_capacity}
use Rattle.tpcc_storage.proofs.by_district.pending.list.Given as goal

abbrev pub invariant-loop-place : goal.invariant-loop-place
invariant-loop-place l = record {
  listed : l.listed.items ≡ l.fn.listed.items ++ take l.place l.range;
  capacity : vec_capacity l.fn.listed ≤ vec_capacity l.listed;
}
