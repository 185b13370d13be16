use Rattle.tpcc_storage.specs.Internal.DistrictWords.{IsGrown}
use Rattle.tpcc_storage.proofs.by_district.growth.grow_all.Given as goal

abbrev pub invariant-loop-place : goal.invariant-loop-place
invariant-loop-place g l = IsGrown l.room l.place l.fn.parts.items l.parts.items
