use Rattle.std.proofs.Common.{◌∙◌, sym, ap}
use Rattle.tpcc_rows.specs.Lists.{first_finding}
use Rattle.tpcc_new_order.specs.Internal.Tests.{line_tests}
use Rattle.tpcc_new_order.proofs.Refusal.{warehouse_missing, district_missing, customer_missing, by_lines, copy_is_some, copied_none}
use Rattle.tpcc_new_order.proofs.reading.order_rows.rows_of_order.Goals as goal

pub returns-in_default-clause-err : goal.returns-in_default-clause-err
returns-in_default-clause-err c = warehouse_missing c.args.tables.now.rows c.args.order.now (copied_none _ _ c.warehouse.ensures c.in_default.is)

pub returns-in_default-district-clause-err : goal.returns-in_default-district-clause-err
returns-in_default-district-clause-err c =
    district_missing c.args.tables.now.rows c.args.order.now c.in-Some.warehouse.now (copy_is_some _ _ c.in-Some.warehouse c.warehouse.ensures c.in-Some.is) (copied_none _ _ c.district.ensures c.in_default-district.is)

pub returns-in_default-customer-clause-err : goal.returns-in_default-customer-clause-err
returns-in_default-customer-clause-err c =
    customer_missing c.args.tables.now.rows c.args.order.now c.in-Some.warehouse.now c.in-Some-district.district.now (copy_is_some _ _ c.in-Some.warehouse c.warehouse.ensures c.in-Some.is) (copy_is_some _ _ c.in-Some-district.district c.district.ensures c.in-Some-district.is)
    (copied_none _ _ c.customer.ensures c.in_default-customer.is)

pub returns-in-Some-line_refusal-clause-err : goal.returns-in-Some-line_refusal-clause-err
returns-in-Some-line_refusal-clause-err c =
    by_lines c.args.tables.now.rows c.args.order.now c.in-Some.warehouse.now c.in-Some-district.district.now c.in-Some-customer.customer.now (copy_is_some _ _ c.in-Some.warehouse c.warehouse.ensures c.in-Some.is) (copy_is_some _ _ c.in-Some-district.district c.district.ensures c.in-Some-district.is)
    (copy_is_some _ _ c.in-Some-customer.customer c.customer.ensures c.in-Some-customer.is)
    ∙ ap (λ ls. first_finding (line_tests c.args.tables.now.rows ls)) (sym c.as_slice.ensures.lines) ∙ sym c.line_refusal.ensures ∙ c.in-Some-line_refusal.is

pub returns-in-None-clause-ok : goal.returns-in-None-clause-ok
returns-in-None-clause-ok c =
    let w = copy_is_some _ _ c.in-Some.warehouse c.warehouse.ensures c.in-Some.is in
    let d = copy_is_some _ _ c.in-Some-district.district c.district.ensures c.in-Some-district.is in
    let k = copy_is_some _ _ c.in-Some-customer.customer c.customer.ensures c.in-Some-customer.is in
    record {
      accepted = by_lines c.args.tables.now.rows c.args.order.now c.in-Some.warehouse.now c.in-Some-district.district.now c.in-Some-customer.customer.now w d k
          ∙ ap (λ ls. first_finding (line_tests c.args.tables.now.rows ls)) (sym c.as_slice.ensures.lines) ∙ sym c.line_refusal.ensures ∙ c.in-None.is;
      warehouse = w;
      district = d;
      customer = k;
    }
