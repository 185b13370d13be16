use Rattle.std.proofs.Common.{rules, refl, sym, subst, ◌∙◌}
use Rattle.tpcc_tables.specs.TablesView.{TablesView}
use Rattle.tpcc_tables.specs.Internal.View.{rows_of}
use Rattle.tpcc_rows.specs.Tables.{is_district, is_customer}
use Rattle.tpcc_tables.specs.Writes.{with_payment, IsPayment, richer_district, customer_after_payment}
use Rattle.tpcc_storage.proofs.NameLaws.{names_kept}
use Rattle.tpcc_tables.proofs.Ready.{ready-updated}
use Rattle.tpcc_tables.proofs.SumChanges.{paid}
use Rattle.tpcc_tables.proofs.SumRanges.{held_grow}
use Rattle.tpcc_tables.proofs.SumWrites.{paid_rows}
use Rattle.tpcc_tables.proofs.Pay.{payable, paid_is_well_keyed}
use Rattle.tpcc_tables.proofs.tables.Tables.pay.Goals as goal

pub pay_warehouse-requires-clause-fits : goal.pay_warehouse-requires-clause-fits
pay_warehouse-requires-clause-fits c =
    let k = subst (λ (t : TablesView). IsPayment t.rows c.args.history c.args.information) (sym c.self.view_is) c.requires.payment in
    (payable (rows_of c.self.inside) c.args.history c.args.information c.self.invariant.well_keyed.keyed k).warehouse

pub pay_district-requires-clause-fits : goal.pay_district-requires-clause-fits
pay_district-requires-clause-fits c =
    let k = subst (λ (t : TablesView). IsPayment t.rows c.args.history c.args.information) (sym c.self.view_is) c.requires.payment in
    (payable (rows_of c.self.inside) c.args.history c.args.information c.self.invariant.well_keyed.keyed k).district

pub pay_customer-requires-clause-fits : goal.pay_customer-requires-clause-fits
pay_customer-requires-clause-fits c =
    let k = subst (λ (t : TablesView). IsPayment t.rows c.args.history c.args.information) (sym c.self.view_is) c.requires.payment in
    let known = payable (rows_of c.self.inside) c.args.history c.args.information c.self.invariant.well_keyed.keyed k in
    λ customer found. record {
      balance = known.balance customer found;
      paid = known.paid customer found;
      count = known.count customer found;
    }

pub invariant_of-self : goal.invariant_of-self
unfolding with_payment
invariant_of-self c =
    let k = subst (λ (t : TablesView). IsPayment t.rows c.args.history c.args.information) (sym c.self.view_is) c.requires.payment in
    record {
      well_keyed = rw (c.pay_warehouse.ensures, c.pay_district.ensures, c.pay_customer.ensures, c.append_history.ensures) (paid_is_well_keyed (rows_of c.self.inside) c.args.history c.args.information k c.self.invariant.well_keyed);
      names = rw c.pay_customer.ensures (c.self.invariant.names ∙ sym (names_kept (is_customer c.args.history.customer_warehouse c.args.history.customer_district c.args.history.customer) (customer_after_payment c.args.history.amount c.args.information) (λ x. refl) c.self.inside.customers.items));
      sums = rw (c.pay_warehouse.ensures, c.pay_district.ensures, c.pay_customer.ensures, c.append_history.ensures) (paid_rows (rows_of c.self.inside) c.args.history c.args.information c.pay.new.self (paid (rows_of c.self.inside) c.args.history c.self.inside.sums c.pay.new.self c.self.invariant.sums c.pay.ensures));
      ready = rw c.pay_district.ensures (ready-updated c.self.inside.are_open c.self.inside.order_room (is_district c.args.history.warehouse c.args.history.district) (richer_district c.args.history.amount) c.self.inside.districts.items c.self.inside.orders c.self.inside.order_lines c.self.inside.new_orders (λ d. refl) c.self.invariant.ready);
      payments = search rules;
    }

pub returns-clause-rows : goal.returns-clause-rows
unfolding with_payment
returns-clause-rows c =
    rw (c.pay_warehouse.ensures, c.pay_district.ensures, c.pay_customer.ensures, c.append_history.ensures, ← c.self.view_is) refl

pub pay-requires : goal.pay-requires
pay-requires c = held_grow c.self.inside c.self.invariant
