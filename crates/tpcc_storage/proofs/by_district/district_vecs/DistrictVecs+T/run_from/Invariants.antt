use Rattle.std.proofs.Common.{◌≡◌, drop}
use Rattle.std.specs.Prelude.{flat_map}
use Rattle.tpcc_storage.specs.Internal.DistrictWords.{rows_in}
use Rattle.tpcc_storage.proofs.by_district.district_vecs.DistrictVecs+T.run_from.Given as goal

abbrev pub invariant-loop-part : goal.invariant-loop-part
invariant-loop-part g l = record {
  rest : drop l.before (flat_map rows_in (drop l.part-index l.part-items)) ≡ drop l.position l.self.rows;
}
