use Rattle.std.proofs.Common.{◌≡◌, ◌≤◌, ◌-◌, ◌++◌}
use Rattle.tpcc_rows.specs.Layout.{each}
use Rattle.tpcc_population.proofs.layout.append_each.Given as goal

abbrev pub invariant-loop-number : goal.invariant-loop-number
invariant-loop-number g l = record {
  least : l.low ≤ l.number;
  rows : g.L.RowList.rows l.rows ≡ g.L.RowList.rows l.initial.rows ++ each l.low (l.number - l.low) (g.T.TableRows.rows_of l.table l.warehouse l.district);
}
