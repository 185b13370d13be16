use Rattle.std.proofs.Common.{sym, subst, ◌∙◌, ◌≡◌, None, arith}
use Rattle.tpcc_tables.specs.TablesView.{TablesView}
use Rattle.tpcc_tables.proofs.Ready.{ready-kept, ready-grown}
use Rattle.tpcc_tables.specs.Internal.View.{rows_of}
use Rattle.tpcc_tables.specs.Loads.{new_order_fault}
use Rattle.tpcc_tables.proofs.Load.{loaded_new_order}
use Rattle.tpcc_tables.proofs.tables.Tables.load_new_order.Goals as goal

pub invariant_of-self-2 : goal.invariant_of-self-2
invariant_of-self-2 c =
    let fault = subst (λ (t : TablesView). new_order_fault t.rows c.args.row ≡ None) (sym c.self.view_is) (sym c.of_new_order.ensures ∙ c.in_default.is) in
    record {
      well_keyed = rw c.in_default-load.ensures.loaded (loaded_new_order (rows_of c.self.inside) c.args.row fault c.self.invariant.well_keyed);
      names = c.self.invariant.names;
      sums = record {
        warehouses = c.self.invariant.sums.warehouses;
        districts = c.self.invariant.sums.districts;
        customers = c.self.invariant.sums.customers;
      };
      ready = ready-kept c.self.inside.are_open c.self.inside.order_room c.self.inside.districts.items c.self.inside.orders c.self.inside.orders c.self.inside.order_lines c.self.inside.order_lines c.self.inside.new_orders c.load.new.self (λ k h. h) (λ k h. h) c.load.ensures.kept c.self.invariant.ready;
      payments = c.self.invariant.payments;
    }

pub invariant_of-self : goal.invariant_of-self
invariant_of-self c =
    record {
      well_keyed = rw c.in-Err.ensures.same c.self.invariant.well_keyed;
      names = c.self.invariant.names;
      sums = record {
        warehouses = c.self.invariant.sums.warehouses;
        districts = c.self.invariant.sums.districts;
        customers = c.self.invariant.sums.customers;
      };
      ready = ready-grown c.self.inside.are_open c.self.inside.order_room c.self.inside.districts.items c.self.inside.orders c.self.inside.orders c.self.inside.order_lines c.self.inside.order_lines c.self.inside.new_orders c.load.new.self (λ k h. h) (λ k h. h) c.in-Err.ensures.kept (omega arith) (omega arith) (omega (arith, c.in-Err.ensures.room)) c.self.invariant.ready;
      payments = c.self.invariant.payments;
    }
