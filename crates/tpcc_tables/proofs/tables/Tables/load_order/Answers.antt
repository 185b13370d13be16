use Rattle.std.proofs.Common.{sym, subst, ◌∙◌, ◌≡◌, None, arith}
use Rattle.tpcc_tables.specs.TablesView.{TablesView}
use Rattle.tpcc_tables.proofs.Ready.{ready-kept, ready-grown}
use Rattle.tpcc_tables.specs.Internal.View.{rows_of}
use Rattle.tpcc_tables.specs.Loads.{order_fault}
use Rattle.tpcc_rows.specs.Lists.{by_key}
use Rattle.tpcc_rows.specs.Tables.{order_key}
use Rattle.tpcc_tables.proofs.Load.{loaded_order}
use Rattle.tpcc_tables.proofs.SumChanges.{entered}
use Rattle.tpcc_tables.proofs.SumRanges.{held_grow, order_lines_most}
use Rattle.tpcc_tables.proofs.SumEntries.{new_order_key, order_row_is}
use Rattle.tpcc_tables.proofs.SumWrites.{no_lines_yet}
use Rattle.tpcc_tables.proofs.tables.Tables.load_order.Goals as goal

pub invariant_of-self-2 : goal.invariant_of-self-2
invariant_of-self-2 c =
    let fault = subst (λ (t : TablesView). order_fault t.rows c.args.row ≡ None) (sym c.self.view_is) (sym c.of_order.ensures ∙ c.in_default.is) in
    record {
      well_keyed = rw c.in_default-load.ensures.loaded (loaded_order (rows_of c.self.inside) c.args.row fault c.self.invariant.well_keyed);
      names = c.self.invariant.names;
      sums = rw c.in_default-load.ensures.loaded (entered (by_key order_key) (rows_of c.self.inside) c.args.row c.new.result (no_lines_yet (rows_of c.self.inside) c.args.row c.self.invariant.well_keyed.parents (new_order_key (rows_of c.self.inside) c.args.row fault) ∙ sym c.new.ensures) c.self.inside.sums c.enter.new.self c.self.invariant.sums c.enter.ensures);
      ready = ready-kept c.self.inside.are_open c.self.inside.order_room c.self.inside.districts.items c.self.inside.orders c.load.new.self c.self.inside.order_lines c.self.inside.order_lines c.self.inside.new_orders c.self.inside.new_orders c.load.ensures.kept (λ k h. h) (λ k h. h) c.self.invariant.ready;
      payments = c.self.invariant.payments;
    }

pub invariant_of-self : goal.invariant_of-self
invariant_of-self c =
    record {
      well_keyed = rw c.in-Err.ensures.same c.self.invariant.well_keyed;
      names = c.self.invariant.names;
      sums = rw c.in-Err.ensures.same c.self.invariant.sums;
      ready = ready-grown c.self.inside.are_open c.self.inside.order_room c.self.inside.districts.items c.self.inside.orders c.load.new.self c.self.inside.order_lines c.self.inside.order_lines c.self.inside.new_orders c.self.inside.new_orders c.in-Err.ensures.kept (λ k h. h) (λ k h. h) (omega (arith, c.in-Err.ensures.room)) (omega arith) (omega arith) c.self.invariant.ready;
      payments = c.self.invariant.payments;
    }

pub enter-requires-clause-room : goal.enter-requires-clause-room
enter-requires-clause-room c = held_grow c.self.inside c.self.invariant

pub enter-requires-clause-lines : goal.enter-requires-clause-lines
enter-requires-clause-lines c =
    order_lines_most c.args.row (order_row_is (rows_of c.self.inside) c.args.row (subst (λ (t : TablesView). order_fault t.rows c.args.row ≡ None) (sym c.self.view_is) (sym c.of_order.ensures ∙ c.in_default.is)))
