use Rattle.std.proofs.Common.{◌≡◌, [], ◌∷◌, IfOk, subst}
use Rattle.tpcc_population.proofs.Laid.{laid_by_new_order}
use Rattle.tpcc_population.proofs.tables.orders.new_orders.Goals as goal

pub returns : goal.returns
returns g c =
    let row = (g.R.RowRules.rules c.args.rules).new_order in
    let laid =
    laid_by_new_order (λ w d o. row w d o ∷ []) _ _ c.warehouses.result c.customers.result c.delivered_orders.result c.delivered_orders-2.result
    c.scale-scale.ensures c.warehouses.ensures.value c.customers.ensures.value c.delivered_orders.ensures.value c.delivered_orders-2.ensures.value in
    record { rows = subst (λ xs. IfOk c.fill_by_district.result (λ v. v.items ≡ xs)) laid c.fill_by_district.ensures }
