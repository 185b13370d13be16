use Rattle.tpcc_tables.specs.DistrictVecs.{listed}
use Rattle.tpcc_tables.specs.Internal.Sums.{AreSums, first_rows}
use Rattle.tpcc_tables.proofs.sums.fill.pay_all.Given as goal

abbrev pub invariant-loop-history : goal.invariant-loop-history
invariant-loop-history l = AreSums (first_rows (listed l.lists) l.history-index 0) l.sums
