use Rattle.std.proofs.Common.{length, ◌-◌}
use Rattle.tpcc_storage.specs.Internal.DistrictWords.{AreRead}
use Rattle.tpcc_storage.proofs.by_district.ByDistrict.from_sorted.Given as goal

abbrev pub invariant-loop-start : goal.invariant-loop-start
invariant-loop-start g l = AreRead g.T.KeyedRow.key l.rows.items l.start l.parts.items

abbrev pub decreases-loop-start : goal.decreases-loop-start
decreases-loop-start g l = length l.rows.items - l.start
