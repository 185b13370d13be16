use Rattle.std.proofs.Common.{◌∙◌, ◌++◌, sym, subst, arith}
use Rattle.tpcc_population.proofs.Each.{each-next_behind, suits-next}
use Rattle.tpcc_population.proofs.layout.append_each.Goals as goal

pub append_rows-requires : goal.append_rows-requires
append_rows-requires g c =
    let rows_of = g.T.TableRows.rows_of c.args.table.now c.args.warehouse c.args.district in
    let more = c.as_slice.ensures.value ∙ c.in_ok-append.ensures ∙ (λ i. c.clear.ensures.items i ++ rows_of c.loop-number.number) in
    subst g.L.RowList.suits (sym (λ i. c.loop-number.invariant.rows i ++ more i))
    (suits-next g.L.RowList.suits g.met.L.RowList.front (g.L.RowList.rows c.args.rows.now) rows_of c.args.low c.loop-number.number c.args.count c.loop-number.invariant.least (omega arith) c.requires.suits)

pub loop-number-preserved : goal.loop-number-preserved
loop-number-preserved g c =
    let rows_of = g.T.TableRows.rows_of c.args.table.now c.args.warehouse c.args.district in
    let more = c.as_slice.ensures.value ∙ c.in_ok-append.ensures ∙ (λ i. c.clear.ensures.items i ++ rows_of c.loop-number.number) in
    record {
      least = omega arith;
      rows =
          c.in_ok-append_rows.ensures
          ∙ (λ i. c.loop-number.invariant.rows i ++ more i)
          ∙ each-next_behind (g.L.RowList.rows c.args.rows.now) rows_of c.args.low c.loop-number.number c.loop-number.invariant.least;
    }
