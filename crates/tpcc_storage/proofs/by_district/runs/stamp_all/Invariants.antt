use Rattle.std.proofs.Common.{◌≡◌, ◌++◌, map, take, drop}
use Rattle.tpcc_laws.proofs.DeliveryKeeps.{with_delivery_date}
use Rattle.tpcc_storage.proofs.by_district.runs.stamp_all.Given as goal

abbrev pub invariant-loop-line : goal.invariant-loop-line
invariant-loop-line l = l.line-items ≡ map (with_delivery_date l.moment) (take l.line-index l.fn.lines) ++ drop l.line-index l.fn.lines
