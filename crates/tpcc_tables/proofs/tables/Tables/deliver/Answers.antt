use Rattle.std.proofs.Common.{◌≡◌, ◌∙◌, List, refl, sym, ap, subst, arith, take, Some, None}
use Rattle.std.specs.Prelude.{ℤ, ◌+ℤ◌, FitsSigned, find}
use Rattle.std.specs.Int.{w64}
use Rattle.tpcc_money.specs.Amounts.{total}
use Rattle.tpcc_rows.specs.declared.tables.rows.OrderLineRow.{OrderLineRow}
use Rattle.tpcc_rows.specs.Tables.{Rows, is_customer}
use Rattle.tpcc_rows.specs.WellKeyed.{IsWellKeyed}
use Rattle.tpcc_rows.specs.Delivery.{oldest_new_order, district_refusal, after_delivery, delivered_customer}
use Rattle.tpcc_laws.proofs.Numbers.{is_in}
use Rattle.tpcc_tables.specs.TablesView.{TablesView}
use Rattle.tpcc_storage.proofs.NameLaws.{names_kept}
use Rattle.tpcc_tables.proofs.Ready.{ready-kept, keeps-same}
use Rattle.tpcc_tables.specs.Internal.Sums.{AreSums}
use Rattle.tpcc_tables.proofs.SumLines.{few_of, range_of}
use Rattle.tpcc_tables.proofs.SumRanges.{held_grow}
use Rattle.tpcc_tables.proofs.SumWrites.{order_delivered, oldest_there}
use Rattle.tpcc_tables.specs.Internal.View.{rows_of}
use Rattle.tpcc_tables.proofs.DeliveryFacts.{deliverable, delivered_rows, delivered_is_well_keyed}
use Rattle.tpcc_tables.proofs.tables.Tables.deliver.Goals as goal
use Rattle.tpcc_money.specs.declared.moment.TheConstants.Moment.{LAST_SECOND}

pub amount-amount-requires : goal.amount-amount-requires
amount-amount-requires c =
    let known = deliverable (rows_of c.self.inside) c.args.warehouse c.args.district c.args.order c.self.invariant.well_keyed.ranges (subst (λ (t : TablesView). district_refusal t.rows c.args.warehouse c.args.district (Some c.args.order) ≡ None) (sym c.self.view_is) c.requires.accepted) in
    record { fits = λ k. subst (λ (ls : List OrderLineRow). FitsSigned w64 (total (λ l. l.amount) (take k ls))) (sym c.lines_of-lines.ensures) (known.parts k) }

pub charge-requires-clause-fits : goal.charge-requires-clause-fits
charge-requires-clause-fits c =
    let known = deliverable (rows_of c.self.inside) c.args.warehouse c.args.district c.args.order c.self.invariant.well_keyed.ranges (subst (λ (t : TablesView). district_refusal t.rows c.args.warehouse c.args.district (Some c.args.order) ≡ None) (sym c.self.view_is) c.requires.accepted) in
    let amount = (c.amount-amount.ensures ∙ ap (total (λ l. l.amount)) c.lines_of-lines.ensures) in
    let customer = c.customer_of-customer.ensures in
    λ x e.
    let found = (λ i. find (is_customer c.args.warehouse c.args.district (sym customer i)) c.self.inside.customers.items) ∙ e in
    record {
      balance = subst (λ (a : ℤ). FitsSigned w64 (x.balance +ℤ a)) (sym amount) (known.balance x found);
      count = known.count x found;
    }

pub invariant_of-self : goal.invariant_of-self
invariant_of-self c =
    let written = delivered_rows (rows_of c.self.inside) c.args.warehouse c.args.district c.args.order c.args.carrier c.args.moment c.customer_of-customer.result c.amount-amount.result c.remove_new_order.new.rows.rows c.carry.new.rows.rows c.stamp.new.self.rows c.charge.new.rows.items
    c.customer_of-customer.ensures
    (c.amount-amount.ensures ∙ ap (total (λ l. l.amount)) c.lines_of-lines.ensures)
    c.remove_new_order.ensures.removed c.carry.ensures.rows c.stamp.ensures.rows c.charge.ensures in
    record {
      well_keyed = subst IsWellKeyed (sym written) (delivered_is_well_keyed (rows_of c.self.inside) c.args.warehouse c.args.district c.args.order c.args.carrier c.args.moment c.requires.carrier (is_in 0 LAST_SECOND c.args.moment (omega arith) (omega (arith, c.seconds.ensures.range))) (subst (λ (t : TablesView). district_refusal t.rows c.args.warehouse c.args.district (Some c.args.order) ≡ None) (sym c.self.view_is) c.requires.accepted) c.self.invariant.well_keyed);
      names = rw c.charge.ensures (c.self.invariant.names ∙ sym (names_kept (is_customer c.args.warehouse c.args.district c.customer_of-customer.result) (delivered_customer c.amount-amount.result) (λ x. refl) c.self.inside.customers.items));
      sums = subst (λ (rows : Rows). AreSums rows c.deliver.new.self) (sym written) (order_delivered (rows_of c.self.inside) c.args.warehouse c.args.district c.args.order c.args.carrier c.args.moment c.customer_of-customer.result c.amount_where-undelivered.result c.lines_of-lines.result.now c.self.inside.sums c.deliver.new.self c.self.invariant.well_keyed.keyed (oldest_there (rows_of c.self.inside) c.args.warehouse c.args.district c.args.order c.self.invariant.well_keyed (subst (λ (t : TablesView). oldest_new_order t.rows c.args.warehouse c.args.district ≡ Some c.args.order) (sym c.self.view_is) c.requires.oldest)) c.customer_of-customer.ensures c.lines_of-lines.ensures c.amount_where-undelivered.ensures.sum c.self.invariant.sums c.deliver.ensures);
      ready = ready-kept c.self.inside.are_open c.self.inside.order_room c.self.inside.districts.items c.self.inside.orders c.carry.new.rows c.self.inside.order_lines c.stamp.new.self c.self.inside.new_orders c.remove_new_order.new.rows (keeps-same _ _ c.carry.ensures.owners) (keeps-same _ _ c.stamp.ensures.owners) (keeps-same _ _ c.remove_new_order.ensures.owners) c.self.invariant.ready;
      payments = c.self.invariant.payments;
    }

pub returns-clause-rows : goal.returns-clause-rows
returns-clause-rows c =
    delivered_rows (rows_of c.self.inside) c.args.warehouse c.args.district c.args.order c.args.carrier c.args.moment c.customer_of-customer.result c.amount-amount.result c.remove_new_order.new.rows.rows c.carry.new.rows.rows c.stamp.new.self.rows c.charge.new.rows.items
    c.customer_of-customer.ensures
    (c.amount-amount.ensures ∙ ap (total (λ l. l.amount)) c.lines_of-lines.ensures)
    c.remove_new_order.ensures.removed c.carry.ensures.rows c.stamp.ensures.rows c.charge.ensures
    ∙ ap (λ (t : TablesView). after_delivery t.rows c.args.warehouse c.args.district c.args.order c.args.carrier c.args.moment) c.self.view_is

pub amount_where-undelivered-requires : goal.amount_where-undelivered-requires
amount_where-undelivered-requires c = record {
  few = few_of (rows_of c.self.inside) c.args.warehouse c.args.district c.args.order c.lines_of-lines.result.now c.self.invariant.well_keyed c.lines_of-lines.ensures;
  range = range_of (rows_of c.self.inside) c.args.warehouse c.args.district c.args.order c.lines_of-lines.result.now c.self.invariant.well_keyed c.lines_of-lines.ensures;
}

pub deliver-requires-clause-room : goal.deliver-requires-clause-room
deliver-requires-clause-room c = held_grow c.self.inside c.self.invariant
