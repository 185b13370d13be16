use Rattle.std.proofs.Common.{◌≡◌, IfOk, subst}
use Rattle.tpcc_rows.specs.Layout.{one_each}
use Rattle.tpcc_population.proofs.Laid.{laid_by_customer}
use Rattle.tpcc_population.proofs.tables.orders.order_lines.Goals as goal

pub returns : goal.returns
returns g c =
    let rules = g.R.RowRules.rules c.args.rules in
    let laid = laid_by_customer (λ w d o. one_each 1 (rules.order w d o).line_count (rules.order_line w d o)) _ _ c.warehouses.result c.customers.result c.scale-scale.ensures c.warehouses.ensures.value c.customers.ensures.value in
    record { rows = subst (λ xs. IfOk c.fill_by_district.result (λ v. v.items ≡ xs)) laid c.fill_by_district.ensures }
