use Rattle.std.proofs.Common.{◌+◌, length}
use Rattle.tpcc_tables.specs.DistrictVecs.{listed}
use Rattle.tpcc_tables.specs.Internal.Sums.{AreSums, first_rows}
use Rattle.tpcc_tables.proofs.sums.fill.enter_run.Given as goal

abbrev pub invariant-loop-order : goal.invariant-loop-order
invariant-loop-order l = AreSums (first_rows (listed l.lists) (length (listed l.lists).histories) (l.start + l.order-index)) l.sums
