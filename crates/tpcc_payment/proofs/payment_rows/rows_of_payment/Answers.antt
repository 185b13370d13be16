use Rattle.std.proofs.Common.{◌∙◌, sym}
use Rattle.tpcc_rows.specs.Tables.{find_warehouse, find_district}
use Rattle.tpcc_rows.specs.ChosenCustomer.{chosen_customer}
use Rattle.tpcc_payment.proofs.Refusal.{first_warehouse, second_warehouse, first_district, second_district, customer_missing, by_ranges, copy_is_some, copied_none, is_missing, is_there}
use Rattle.tpcc_payment.proofs.payment_rows.rows_of_payment.Goals as goal

pub returns-in_default-clause-err : goal.returns-in_default-clause-err
returns-in_default-clause-err c = first_warehouse c.args.tables.now.rows c.args.payment.now (copied_none _ _ c.warehouse.ensures c.in_default.is)

pub returns-then-is_none-clause-err : goal.returns-then-is_none-clause-err
returns-then-is_none-clause-err c =
    second_warehouse c.args.tables.now.rows c.args.payment.now c.in-Some.warehouse.now (copy_is_some _ _ c.in-Some.warehouse c.warehouse.ensures c.in-Some.is) (is_missing c.warehouse-2.result _ c.is_none.result c.warehouse-2.ensures c.is_none.ensures c.if-is_none.true)

pub returns-in_default-district-clause-err : goal.returns-in_default-district-clause-err
returns-in_default-district-clause-err c =
    let w2 = is_there c.warehouse-2.result _ c.is_none.result c.warehouse-2.ensures c.is_none.ensures c.if-is_none.false in
    first_district c.args.tables.now.rows c.args.payment.now c.in-Some.warehouse.now w2.0 (copy_is_some _ _ c.in-Some.warehouse c.warehouse.ensures c.in-Some.is) w2.1 (copied_none _ _ c.district.ensures c.in_default-district.is)

pub returns-then-is_none-2-clause-err : goal.returns-then-is_none-2-clause-err
returns-then-is_none-2-clause-err c =
    let w2 = is_there c.warehouse-2.result _ c.is_none.result c.warehouse-2.ensures c.is_none.ensures c.if-is_none.false in
    second_district c.args.tables.now.rows c.args.payment.now c.in-Some.warehouse.now w2.0 c.in-Some-district.district.now (copy_is_some _ _ c.in-Some.warehouse c.warehouse.ensures c.in-Some.is) w2.1 (copy_is_some _ _ c.in-Some-district.district c.district.ensures c.in-Some-district.is)
    (is_missing c.district-2.result _ c.is_none-2.result c.district-2.ensures c.is_none-2.ensures c.if-is_none-2.true)

pub returns-in_default-chosen_customer-clause-err : goal.returns-in_default-chosen_customer-clause-err
returns-in_default-chosen_customer-clause-err c =
    let w2 = is_there c.warehouse-2.result _ c.is_none.result c.warehouse-2.ensures c.is_none.ensures c.if-is_none.false in
    let d2 = is_there c.district-2.result _ c.is_none-2.result c.district-2.ensures c.is_none-2.ensures c.if-is_none-2.false in
    customer_missing c.args.tables.now.rows c.args.payment.now c.in-Some.warehouse.now w2.0 c.in-Some-district.district.now d2.0 (copy_is_some _ _ c.in-Some.warehouse c.warehouse.ensures c.in-Some.is) w2.1 (copy_is_some _ _ c.in-Some-district.district c.district.ensures c.in-Some-district.is) d2.1
    (copied_none _ _ c.chosen_customer.ensures c.in_default-chosen_customer.is)

pub returns-in-Some-range_refusal-clause-err : goal.returns-in-Some-range_refusal-clause-err
returns-in-Some-range_refusal-clause-err c =
    let w2 = is_there c.warehouse-2.result _ c.is_none.result c.warehouse-2.ensures c.is_none.ensures c.if-is_none.false in
    let d2 = is_there c.district-2.result _ c.is_none-2.result c.district-2.ensures c.is_none-2.ensures c.if-is_none-2.false in
    by_ranges c.args.tables.now.rows c.args.payment.now c.in-Some.warehouse.now w2.0 c.in-Some-district.district.now d2.0 c.in-Some-chosen_customer.customer.now (copy_is_some _ _ c.in-Some.warehouse c.warehouse.ensures c.in-Some.is) w2.1 (copy_is_some _ _ c.in-Some-district.district c.district.ensures c.in-Some-district.is) d2.1 (copy_is_some _ _ c.in-Some-chosen_customer.customer c.chosen_customer.ensures c.in-Some-chosen_customer.is)
    ∙ sym c.range_refusal.ensures ∙ c.in-Some-range_refusal.is

pub returns-in-None-clause-ok : goal.returns-in-None-clause-ok
returns-in-None-clause-ok c =
    let w2 = is_there c.warehouse-2.result _ c.is_none.result c.warehouse-2.ensures c.is_none.ensures c.if-is_none.false in
    let d2 = is_there c.district-2.result _ c.is_none-2.result c.district-2.ensures c.is_none-2.ensures c.if-is_none-2.false in
    let w = copy_is_some c.warehouse.result (find_warehouse c.args.tables.now.rows c.args.payment.now.warehouse) c.in-Some.warehouse c.warehouse.ensures c.in-Some.is in
    let d = copy_is_some c.district.result (find_district c.args.tables.now.rows c.args.payment.now.warehouse c.args.payment.now.district) c.in-Some-district.district c.district.ensures c.in-Some-district.is in
    let k = copy_is_some c.chosen_customer.result (chosen_customer c.args.tables.now.rows c.args.payment.now.customer_warehouse c.args.payment.now.customer_district c.args.payment.now.who) c.in-Some-chosen_customer.customer c.chosen_customer.ensures c.in-Some-chosen_customer.is in
    record {
      accepted = by_ranges c.args.tables.now.rows c.args.payment.now c.in-Some.warehouse.now w2.0 c.in-Some-district.district.now d2.0 c.in-Some-chosen_customer.customer.now w w2.1 d d2.1 k ∙ sym c.range_refusal.ensures ∙ c.in-None.is;
      warehouse = w;
      district = d;
      customer = k;
    }
