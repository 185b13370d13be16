use Rattle.std.proofs.Common.{ℕ, [], ◌∷◌, ◌∙◌, ◌++◌, arith}
use Rattle.tpcc_rows.specs.declared.tables.rows.OrderLineRow.{OrderLineRow}
use Rattle.tpcc_population.proofs.Each.{each-next_behind}
use Rattle.tpcc_population.proofs.tables.orders.append_lines.Goals as goal

pub loop-number-preserved : goal.loop-number-preserved
loop-number-preserved g c =
    let line : ℕ → OrderLineRow = (g.R.RowRules.rules c.args.rules.now).order_line c.args.warehouse c.args.district c.args.order in
    record {
      least = omega arith;
      rows =
          c.in_ok-push.ensures
          ∙ (λ i. c.loop-number.invariant.rows i ++ c.order_line-row.ensures i ∷ [])
          ∙ each-next_behind c.args.rows.now.items (λ j. line j ∷ []) 1 c.loop-number.number c.loop-number.invariant.least;
    }
