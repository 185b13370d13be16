use Rattle.std.proofs.Common.{ℕ, [], ◌∷◌, ◌∙◌, ◌++◌, arith}
use Rattle.tpcc_rows.specs.declared.tables.rows.OrderRow.{OrderRow}
use Rattle.tpcc_population.proofs.Each.{each-next_behind}
use Rattle.tpcc_population.proofs.tables.orders.append_orders.Goals as goal

pub loop-number-preserved : goal.loop-number-preserved
loop-number-preserved g c =
    let order : ℕ → OrderRow = (g.R.RowRules.rules c.args.rules.now).order c.args.warehouse c.args.district in
    record {
      least = omega arith;
      rows =
          c.in_ok-push.ensures
          ∙ (λ i. c.loop-number.invariant.rows i ++ c.order-row.ensures i ∷ [])
          ∙ each-next_behind c.args.rows.now.items (λ j. order j ∷ []) 1 c.loop-number.number c.loop-number.invariant.least;
    }
