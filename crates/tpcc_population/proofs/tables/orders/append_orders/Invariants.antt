use Rattle.std.proofs.Common.{◌≡◌, ◌≤◌, ◌-◌, ◌++◌}
use Rattle.tpcc_rows.specs.Layout.{one_each}
use Rattle.tpcc_population.proofs.tables.orders.append_orders.Given as goal

abbrev pub invariant-loop-number : goal.invariant-loop-number
invariant-loop-number g l = record {
  least : 1 ≤ l.number;
  rows : l.rows.items ≡ l.initial.rows.items ++ one_each 1 (l.number - 1) ((g.R.RowRules.rules l.rules).order l.warehouse l.district);
}
