use Rattle.std.proofs.Common.{◌∙◌, ap, sym, Some}
use Rattle.tpcc_text.specs.Script.{order_of}
use Rattle.tpcc_text.proofs.Faults.{passed_up}
use Rattle.tpcc_text.proofs.OrderWords.{four_up, no_warehouse, no_district, no_customer, no_moment, no_lines, order_read}
use Rattle.tpcc_text.proofs.script.parse.order.Goals as goal

pub returns-in_err-warehouse : goal.returns-in_err-warehouse
returns-in_err-warehouse c =
    passed_up c.from_residual.result c.in_err-warehouse.field-0.0 _ _ c.from_residual.ensures.1 c.in_err-warehouse.ensures.read
    (λ none. ap order_of (four_up (λ w. w.now) c.args.words.now _ c.in-len4-up.len_at_least) ∙ no_warehouse _ _ _ _ _ none)

pub returns-in_err-district : goal.returns-in_err-district
returns-in_err-district c =
    passed_up c.from_residual-in_err-district.result c.in_err-district.field-0.0 _ _ c.from_residual-in_err-district.ensures.1 c.in_err-district.ensures.read
    (λ none. ap order_of (four_up (λ w. w.now) c.args.words.now _ c.in-len4-up.len_at_least) ∙ no_district _ _ _ _ _ c.in_ok-warehouse.warehouse c.in_ok-warehouse.ensures.read none)

pub returns-in_err-customer : goal.returns-in_err-customer
returns-in_err-customer c =
    passed_up c.from_residual-in_err-customer.result c.in_err-customer.field-0.0 _ _ c.from_residual-in_err-customer.ensures.1 c.in_err-customer.ensures.read
    (λ none. ap order_of (four_up (λ w. w.now) c.args.words.now _ c.in-len4-up.len_at_least) ∙ no_customer _ _ _ _ _ c.in_ok-warehouse.warehouse c.in_ok-district.district c.in_ok-warehouse.ensures.read c.in_ok-district.ensures.read none)

pub returns-in_err-moment : goal.returns-in_err-moment
returns-in_err-moment c =
    passed_up c.from_residual-in_err-moment.result c.in_err-moment.field-0.0 _ _ c.from_residual-in_err-moment.ensures.1 c.in_err-moment.ensures.read
    (λ none. ap order_of (four_up (λ w. w.now) c.args.words.now _ c.in-len4-up.len_at_least) ∙ no_moment _ _ _ _ _ c.in_ok-warehouse.warehouse c.in_ok-district.district c.in_ok-customer.customer c.in_ok-warehouse.ensures.read c.in_ok-district.ensures.read c.in_ok-customer.ensures.read none)

pub returns-in_err-lines : goal.returns-in_err-lines
returns-in_err-lines c =
    passed_up c.from_residual-in_err-lines.result c.in_err-lines.field-0.0 _ _ c.from_residual-in_err-lines.ensures.1 c.in_err-lines.ensures
    (λ none. ap order_of (four_up (λ w. w.now) c.args.words.now _ c.in-len4-up.len_at_least) ∙ no_lines _ _ _ _ _ c.in_ok-warehouse.warehouse c.in_ok-district.district c.in_ok-customer.customer c.in_ok-moment.moment c.in_ok-warehouse.ensures.read c.in_ok-district.ensures.read c.in_ok-customer.ensures.read c.in_ok-moment.ensures.read none)

pub returns : goal.returns
returns c =
    ap order_of (four_up (λ w. w.now) c.args.words.now _ c.in-len4-up.len_at_least)
    ∙ order_read _ _ _ _ _ c.in_ok-warehouse.warehouse c.in_ok-district.district c.in_ok-customer.customer c.in_ok-moment.moment c.new.result c.in_ok-warehouse.ensures.read c.in_ok-district.ensures.read c.in_ok-customer.ensures.read c.in_ok-moment.ensures.read (c.in_ok-lines.ensures ∙ ap Some (sym c.new.ensures.lines))
