use Rattle.std.proofs.Common.{◌≡◌, ◌≤◌, ◌-◌, ◌++◌}
use Rattle.tpcc_rows.specs.Layout.{each}
use Rattle.tpcc_population.proofs.layout.append_districts.Given as goal

abbrev pub invariant-loop-district : goal.invariant-loop-district
invariant-loop-district g l = record {
  least : 1 ≤ l.district;
  rows : g.L.RowList.rows l.rows ≡ g.L.RowList.rows l.initial.rows ++ each 1 (l.district - 1) (λ d. each l.low l.count (g.T.TableRows.rows_of l.table l.warehouse d));
}
