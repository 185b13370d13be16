use Rattle.std.proofs.Common.{true, sym, subst, ◌∙◌, ◌≡◌, None, arith}
use Rattle.tpcc_tables.specs.TablesView.{TablesView}
use Rattle.tpcc_tables.proofs.Ready.{ready-kept, ready-grown}
use Rattle.tpcc_tables.specs.Internal.View.{rows_of}
use Rattle.tpcc_tables.specs.Loads.{order_line_fault}
use Rattle.tpcc_tables.proofs.Load.{loaded_order_line}
use Rattle.tpcc_tables.proofs.SumEntries.{order_line_row_is}
use Rattle.tpcc_tables.proofs.SumLines.{line_in_order}
use Rattle.tpcc_tables.proofs.SumRanges.{held_grow}
use Rattle.tpcc_tables.proofs.SumWrites.{line_loaded}
use Rattle.tpcc_tables.proofs.tables.Tables.load_order_line.Goals as goal

pub invariant_of-self-2 : goal.invariant_of-self-2
invariant_of-self-2 c =
    let fault = subst (λ (t : TablesView). order_line_fault t.rows c.args.row ≡ None) (sym c.self.view_is) (sym c.of_order_line.ensures ∙ c.in_default.is) in
    record {
      well_keyed = rw c.in_default-load.ensures.loaded (loaded_order_line (rows_of c.self.inside) c.args.row fault c.self.invariant.well_keyed);
      names = c.self.invariant.names;
      sums = rw c.in_default-load.ensures.loaded (line_loaded (rows_of c.self.inside) c.args.row c.customer_of-customer.result c.amount_if-delivered.result c.self.inside.sums c.deliver.new.self c.self.invariant.well_keyed.keyed (order_line_row_is (rows_of c.self.inside) c.args.row fault).1 c.customer_of-customer.ensures c.amount_if-delivered.ensures c.self.invariant.sums c.deliver.ensures);
      ready = ready-kept c.self.inside.are_open c.self.inside.order_room c.self.inside.districts.items c.self.inside.orders c.self.inside.orders c.self.inside.order_lines c.load.new.self c.self.inside.new_orders c.self.inside.new_orders (λ k h. h) c.load.ensures.kept (λ k h. h) c.self.invariant.ready;
      payments = c.self.invariant.payments;
    }

pub invariant_of-self : goal.invariant_of-self
invariant_of-self c =
    record {
      well_keyed = rw c.in-Err.ensures.same c.self.invariant.well_keyed;
      names = c.self.invariant.names;
      sums = rw c.in-Err.ensures.same c.self.invariant.sums;
      ready = ready-grown c.self.inside.are_open c.self.inside.order_room c.self.inside.districts.items c.self.inside.orders c.self.inside.orders c.self.inside.order_lines c.load.new.self c.self.inside.new_orders c.self.inside.new_orders (λ k h. h) c.in-Err.ensures.kept (λ k h. h) (omega arith) (omega (arith, c.in-Err.ensures.room)) (omega arith) c.self.invariant.ready;
      payments = c.self.invariant.payments;
    }

pub deliver-requires-clause-room : goal.deliver-requires-clause-room
deliver-requires-clause-room c = held_grow c.self.inside c.self.invariant

pub deliver-requires-clause-amount : goal.deliver-requires-clause-amount
deliver-requires-clause-amount c =
    let fault = subst (λ (t : TablesView). order_line_fault t.rows c.args.row ≡ None) (sym c.self.view_is) (sym c.of_order_line.ensures ∙ c.in_default.is) in
    line_in_order true c.args.row c.amount_if-delivered.result (order_line_row_is (rows_of c.self.inside) c.args.row fault).0 c.amount_if-delivered.ensures
