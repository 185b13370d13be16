use Rattle.std.proofs.Common.{◌≡◌, [], ◌∷◌, IfOk, ap, ◌∙◌, subst}
use Rattle.tpcc_rows.specs.Lists.{is_ascending}
use Rattle.tpcc_rows.specs.Tables.{customer_key}
use Rattle.tpcc_population.proofs.Laid.{laid_by_customer}
use Rattle.tpcc_population.proofs.tables.customers.customers.Goals as goal

pub fill_by_district-requires-clause-suits : goal.fill_by_district-requires-clause-suits
fill_by_district-requires-clause-suits g c =
    let row = (g.R.RowRules.rules c.args.rules).customer in
    let laid = laid_by_customer (λ w d k. row w d k ∷ []) _ _ c.warehouses.result c.customers.result c.scale-scale.ensures c.warehouses.ensures.value c.customers.ensures.value in
    ap (is_ascending customer_key) laid ∙ c.is_keyed.ensures.customers

pub returns : goal.returns
returns g c =
    let row = (g.R.RowRules.rules c.args.rules).customer in
    let laid = laid_by_customer (λ w d k. row w d k ∷ []) _ _ c.warehouses.result c.customers.result c.scale-scale.ensures c.warehouses.ensures.value c.customers.ensures.value in
    record { rows = subst (λ xs. IfOk c.fill_by_district.result (λ v. v.items ≡ xs)) laid c.fill_by_district.ensures }
