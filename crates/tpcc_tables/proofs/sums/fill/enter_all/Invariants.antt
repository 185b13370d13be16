use Rattle.std.proofs.Common.{◌-◌, ◌≤◌, length}
use Rattle.tpcc_tables.specs.DistrictVecs.{listed}
use Rattle.tpcc_tables.specs.Internal.Sums.{AreSums, first_rows}
use Rattle.tpcc_tables.proofs.sums.fill.enter_all.Given as goal

abbrev pub invariant-loop-start : goal.invariant-loop-start
invariant-loop-start l = record {
  sums : AreSums (first_rows (listed l.lists) (length (listed l.lists).histories) l.start) l.sums;
  within : l.start ≤ length (listed l.lists).orders;
}

abbrev pub decreases-loop-start : goal.decreases-loop-start
decreases-loop-start l = length (listed l.lists).orders - l.start
