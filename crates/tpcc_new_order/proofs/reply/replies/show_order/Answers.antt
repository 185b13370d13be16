use Rattle.std.proofs.Common.{◌≡◌, ◌∙◌, sym, subst}
use Rattle.tpcc_money.specs.Amounts.{order_total, total}
use Rattle.tpcc_rows.specs.NewOrder.{amount_of, accepted_from}
use Rattle.tpcc_new_order.specs.Internal.Supplied.{IsServable}
use Rattle.tpcc_new_order.proofs.Preparations.{accepted_is, district_within, few_lines, servable_if}
use Rattle.tpcc_new_order.proofs.reply.replies.show_order.Goals as goal

pub show_head-shown-requires : goal.show_head-shown-requires
show_head-shown-requires c = record { few = few_lines c.args.tables.now.rows c.args.order.now c.requires.accepted }

pub add_lines-sum-requires-clause-district : goal.add_lines-sum-requires-clause-district
add_lines-sum-requires-clause-district c = district_within c.args.tables.now.rows c.args.order.now c.named_rows-named.result c.well_keyed.ensures.ranges c.named_rows-named.ensures

pub add_lines-sum-requires-clause-servable : goal.add_lines-sum-requires-clause-servable
add_lines-sum-requires-clause-servable c =
    subst (IsServable c.args.tables.now.rows) (sym c.as_slice-lines.ensures.lines) (servable_if c.args.tables.now.rows c.args.order.now c.requires.stocked c.requires.accepted c.requires.entered)

pub returns-clause-reply : goal.returns-clause-reply
returns-clause-reply c =
    let rows = c.args.tables.now.rows in
    let o = c.args.order.now in
    let n = c.named_rows-named.result in
    let sum : c.order_total-shown.result ≡ order_total (total (amount_of rows) o.lines) n.customer.now.discount n.warehouse.now.tax n.district.now.tax =
    c.order_total-shown.ensures
    ∙ (λ i. order_total (c.add_lines-sum.ensures.sum i) (c.show_head-shown.ensures i).discount (c.show_head-shown.ensures i).warehouse_tax (c.show_head-shown.ensures i).district_tax) in
    (λ i. record (c.show_head-shown.ensures i) { total = c.order_total-shown.result; lines = c.add_lines-sum.new.shown })
    ∙ (λ i. accepted_from o n.warehouse.now n.district.now n.customer.now (sum i) (c.add_lines-sum.ensures.shown i))
    ∙ accepted_is rows o n c.named_rows-named.ensures
