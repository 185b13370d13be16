use Rattle.std.proofs.Common.{◌≡◌, ◌≤◌, ◌-◌}
use Rattle.tpcc_rows.specs.Layout.{each}
use Rattle.tpcc_population.proofs.layout.fill_by_warehouse.Given as goal

abbrev pub invariant-loop-warehouse : goal.invariant-loop-warehouse
invariant-loop-warehouse g l = record {
  least : 1 ≤ l.warehouse;
  rows : g.L.RowList.rows l.rows ≡ each 1 (l.warehouse - 1) (λ w. each 1 l.count (g.T.TableRows.rows_of l.table w 1));
}
