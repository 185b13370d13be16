use Rattle.std.proofs.Common.{◌≡◌, ◌-◌, ℕ, ◌∙◌, ◌++◌, sym, subst, arith}
use Rattle.tpcc_rows.specs.Layout.{each}
use Rattle.tpcc_population.proofs.Each.{each-next_behind, suits-next}
use Rattle.tpcc_population.proofs.layout.append_districts.Goals as goal

pub append_each-requires-clause-suits : goal.append_each-requires-clause-suits
append_each-requires-clause-suits g c =
    let rows_in = λ (d : ℕ). each c.args.low c.args.count (g.T.TableRows.rows_of c.args.table.now c.args.warehouse d) in
    subst g.L.RowList.suits (sym (λ i. c.loop-district.invariant.rows i ++ rows_in c.loop-district.district))
    (suits-next g.L.RowList.suits g.met.L.RowList.front (g.L.RowList.rows c.args.rows.now) rows_in 1 c.loop-district.district 10 c.loop-district.invariant.least (omega arith) c.requires.suits)

pub loop-district-preserved : goal.loop-district-preserved
loop-district-preserved g c =
    let rows_in = λ (d : ℕ). each c.args.low c.args.count (g.T.TableRows.rows_of c.args.table.now c.args.warehouse d) in
    record {
      least = omega arith;
      rows =
          c.in_ok-append_each.ensures
          ∙ (λ i. c.loop-district.invariant.rows i ++ rows_in c.loop-district.district)
          ∙ each-next_behind (g.L.RowList.rows c.args.rows.now) rows_in 1 c.loop-district.district c.loop-district.invariant.least;
    }

pub returns : goal.returns
returns g c =
    let rows_in = λ (d : ℕ). each c.args.low c.args.count (g.T.TableRows.rows_of c.args.table.now c.args.warehouse d) in
    let last : c.loop-district.district ≡ 11 = omega arith in
    c.loop-district.invariant.rows ∙ (λ i. g.L.RowList.rows c.args.rows.now ++ each 1 (last i - 1) rows_in)
