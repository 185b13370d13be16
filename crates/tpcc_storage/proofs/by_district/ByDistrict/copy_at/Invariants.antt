use Rattle.std.proofs.Common.{◌≡◌, drop, slice_get}
use Rattle.std.specs.Prelude.{flat_map}
use Rattle.tpcc_storage.specs.Internal.DistrictWords.{rows_in}
use Rattle.tpcc_storage.proofs.by_district.ByDistrict.copy_at.Given as goal

abbrev pub invariant-loop-part : goal.invariant-loop-part
invariant-loop-part g l = record {
  row : slice_get (flat_map rows_in (drop l.part-index l.part-items)) l.before ≡ slice_get l.self.rows l.position;
}
