use Rattle.std.proofs.Common.{◌∙◌, ap}
use Rattle.tpcc_text.specs.Script.{payment_of}
use Rattle.tpcc_text.proofs.Faults.{passed_up}
use Rattle.tpcc_text.proofs.PaymentWords.{seven, payment_read, no_warehouse, no_district, no_customer_warehouse, no_customer_district, no_who, no_amount, no_moment}
use Rattle.tpcc_text.proofs.script.parse.payment.Goals as goal

pub returns-in_err-warehouse : goal.returns-in_err-warehouse
returns-in_err-warehouse c =
    passed_up c.from_residual.result c.in_err-warehouse.field-0.0 _ _ c.from_residual.ensures.1 c.in_err-warehouse.ensures.read
    (λ none. ap payment_of (seven (λ w. w.now) c.args.words.now _ c.in-len7.len_at_least c.in-len7.len_below) ∙ no_warehouse _ _ _ _ _ _ _ none)

pub returns-in_err-district : goal.returns-in_err-district
returns-in_err-district c =
    passed_up c.from_residual-in_err-district.result c.in_err-district.field-0.0 _ _ c.from_residual-in_err-district.ensures.1 c.in_err-district.ensures.read
    (λ none. ap payment_of (seven (λ w. w.now) c.args.words.now _ c.in-len7.len_at_least c.in-len7.len_below) ∙ no_district _ _ _ _ _ _ _ c.in_ok-warehouse.warehouse c.in_ok-warehouse.ensures.read none)

pub returns-in_err-customer_warehouse : goal.returns-in_err-customer_warehouse
returns-in_err-customer_warehouse c =
    passed_up c.from_residual-in_err-customer_warehouse.result c.in_err-customer_warehouse.field-0.0 _ _ c.from_residual-in_err-customer_warehouse.ensures.1 c.in_err-customer_warehouse.ensures.read
    (λ none. ap payment_of (seven (λ w. w.now) c.args.words.now _ c.in-len7.len_at_least c.in-len7.len_below) ∙ no_customer_warehouse _ _ _ _ _ _ _ c.in_ok-warehouse.warehouse c.in_ok-district.district c.in_ok-warehouse.ensures.read c.in_ok-district.ensures.read none)

pub returns-in_err-customer_district : goal.returns-in_err-customer_district
returns-in_err-customer_district c =
    passed_up c.from_residual-in_err-customer_district.result c.in_err-customer_district.field-0.0 _ _ c.from_residual-in_err-customer_district.ensures.1 c.in_err-customer_district.ensures.read
    (λ none. ap payment_of (seven (λ w. w.now) c.args.words.now _ c.in-len7.len_at_least c.in-len7.len_below) ∙ no_customer_district _ _ _ _ _ _ _ c.in_ok-warehouse.warehouse c.in_ok-district.district c.in_ok-customer_warehouse.customer_warehouse c.in_ok-warehouse.ensures.read c.in_ok-district.ensures.read c.in_ok-customer_warehouse.ensures.read none)

pub returns-in_err-who : goal.returns-in_err-who
returns-in_err-who c =
    passed_up c.from_residual-in_err-who.result c.in_err-who.field-0.0 _ _ c.from_residual-in_err-who.ensures.1 c.in_err-who.ensures
    (λ none. ap payment_of (seven (λ w. w.now) c.args.words.now _ c.in-len7.len_at_least c.in-len7.len_below) ∙ no_who _ _ _ _ _ _ _ c.in_ok-warehouse.warehouse c.in_ok-district.district c.in_ok-customer_warehouse.customer_warehouse c.in_ok-customer_district.customer_district c.in_ok-warehouse.ensures.read c.in_ok-district.ensures.read c.in_ok-customer_warehouse.ensures.read c.in_ok-customer_district.ensures.read none)

pub returns-in_err-amount : goal.returns-in_err-amount
returns-in_err-amount c =
    passed_up c.from_residual-in_err-amount.result c.in_err-amount.field-0.0 _ _ c.from_residual-in_err-amount.ensures.1 c.in_err-amount.ensures.read
    (λ none. ap payment_of (seven (λ w. w.now) c.args.words.now _ c.in-len7.len_at_least c.in-len7.len_below) ∙ no_amount _ _ _ _ _ _ _ c.in_ok-warehouse.warehouse c.in_ok-district.district c.in_ok-customer_warehouse.customer_warehouse c.in_ok-customer_district.customer_district c.in_ok-who.who c.in_ok-warehouse.ensures.read c.in_ok-district.ensures.read c.in_ok-customer_warehouse.ensures.read c.in_ok-customer_district.ensures.read c.in_ok-who.ensures none)

pub returns-in_err-moment : goal.returns-in_err-moment
returns-in_err-moment c =
    passed_up c.from_residual-in_err-moment.result c.in_err-moment.field-0.0 _ _ c.from_residual-in_err-moment.ensures.1 c.in_err-moment.ensures.read
    (λ none. ap payment_of (seven (λ w. w.now) c.args.words.now _ c.in-len7.len_at_least c.in-len7.len_below) ∙ no_moment _ _ _ _ _ _ _ c.in_ok-warehouse.warehouse c.in_ok-district.district c.in_ok-customer_warehouse.customer_warehouse c.in_ok-customer_district.customer_district c.in_ok-who.who c.in_ok-amount.amount c.in_ok-warehouse.ensures.read c.in_ok-district.ensures.read c.in_ok-customer_warehouse.ensures.read c.in_ok-customer_district.ensures.read c.in_ok-who.ensures c.in_ok-amount.ensures.read none)

pub returns : goal.returns
returns c =
    ap payment_of (seven (λ w. w.now) c.args.words.now _ c.in-len7.len_at_least c.in-len7.len_below)
    ∙ payment_read _ _ _ _ _ _ _ c.in_ok-warehouse.warehouse c.in_ok-district.district c.in_ok-customer_warehouse.customer_warehouse c.in_ok-customer_district.customer_district c.in_ok-who.who c.in_ok-amount.amount c.in_ok-moment.moment
    c.in_ok-warehouse.ensures.read c.in_ok-district.ensures.read c.in_ok-customer_warehouse.ensures.read c.in_ok-customer_district.ensures.read c.in_ok-who.ensures c.in_ok-amount.ensures.read c.in_ok-moment.ensures.read
