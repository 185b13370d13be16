use Rattle.std.proofs.Common.{refl}
use Rattle.tpcc_storage.specs.Internal.OrderRange.{range}
use Rattle.tpcc_storage.proofs.by_district.range.OrderRange.new.Goals as goal

pub returns : goal.returns
unfolding range
returns c = refl
