use Rattle.std.proofs.Common.{◌≡◌, [], ◌∷◌, IfOk, ap, ◌∙◌, subst}
use Rattle.tpcc_rows.specs.Lists.{is_ascending}
use Rattle.tpcc_rows.specs.Tables.{stock_key}
use Rattle.tpcc_population.proofs.Laid.{laid_by_item}
use Rattle.tpcc_population.proofs.tables.goods.stocks.Goals as goal

pub fill_by_warehouse-requires-clause-suits : goal.fill_by_warehouse-requires-clause-suits
fill_by_warehouse-requires-clause-suits g c =
    let row = (g.R.RowRules.rules c.args.rules).stock in
    let laid = laid_by_item (λ w n. row w n ∷ []) _ _ c.warehouses.result c.items.result c.scale-scale.ensures c.warehouses.ensures.value c.items.ensures.value in
    ap (is_ascending stock_key) laid ∙ c.is_keyed.ensures.stocks

pub returns : goal.returns
returns g c =
    let row = (g.R.RowRules.rules c.args.rules).stock in
    let laid = laid_by_item (λ w n. row w n ∷ []) _ _ c.warehouses.result c.items.result c.scale-scale.ensures c.warehouses.ensures.value c.items.ensures.value in
    record { rows = subst (λ xs. IfOk c.fill_by_warehouse.result (λ v. v.items ≡ xs)) laid c.fill_by_warehouse.ensures }
