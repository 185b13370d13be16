use Rattle.std.proofs.Common.{ℕ, [], ◌∙◌, ◌++◌, sym, subst, arith}
use Rattle.tpcc_rows.specs.Layout.{each}
use Rattle.tpcc_population.proofs.Each.{each-next, suits-next}
use Rattle.tpcc_population.proofs.layout.fill_by_district.Goals as goal

pub append_districts-requires-clause-suits : goal.append_districts-requires-clause-suits
append_districts-requires-clause-suits g c =
    let rows_in = λ (w : ℕ). each 1 10 (λ d. each c.args.low c.args.count (g.T.TableRows.rows_of c.args.table.now w d)) in
    subst g.L.RowList.suits (sym (λ i. c.loop-warehouse.invariant.rows i ++ rows_in c.loop-warehouse.warehouse))
    (suits-next g.L.RowList.suits g.met.L.RowList.front [] rows_in 1 c.loop-warehouse.warehouse c.args.warehouses c.loop-warehouse.invariant.least (omega arith) c.requires.suits)

pub loop-warehouse-preserved : goal.loop-warehouse-preserved
loop-warehouse-preserved g c =
    let rows_in = λ (w : ℕ). each 1 10 (λ d. each c.args.low c.args.count (g.T.TableRows.rows_of c.args.table.now w d)) in
    record {
      least = omega arith;
      rows =
          c.in_ok-append_districts.ensures
          ∙ (λ i. c.loop-warehouse.invariant.rows i ++ rows_in c.loop-warehouse.warehouse)
          ∙ each-next rows_in 1 c.loop-warehouse.warehouse c.loop-warehouse.invariant.least;
    }
