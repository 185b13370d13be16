use Rattle.std.proofs.Common.{◌≡◌, [], ◌∷◌, IfOk, subst}
use Rattle.tpcc_population.proofs.Laid.{laid_by_customer}
use Rattle.tpcc_population.proofs.tables.customers.histories.Goals as goal

pub returns : goal.returns
returns g c =
    let row = (g.R.RowRules.rules c.args.rules).history in
    let laid = laid_by_customer (λ w d k. row w d k ∷ []) _ _ c.warehouses.result c.customers.result c.scale-scale.ensures c.warehouses.ensures.value c.customers.ensures.value in
    record { rows = subst (λ xs. IfOk c.fill_by_district.result (λ v. v.items ≡ xs)) laid c.fill_by_district.ensures }
