use Rattle.std.proofs.Common.{rules, sym, subst, ap, ◌∙◌, ◌≡◌, None}
use Rattle.tpcc_rows.specs.Lists.{by_key, inserted}
use Rattle.tpcc_rows.specs.Tables.{customer_key}
use Rattle.tpcc_storage.specs.Names.{name_of, name_before}
use Rattle.tpcc_storage.proofs.NameLaws.{names_loaded}
use Rattle.tpcc_tables.specs.TablesView.{TablesView}
use Rattle.tpcc_tables.specs.Internal.View.{rows_of}
use Rattle.tpcc_tables.specs.Loads.{customer_fault}
use Rattle.tpcc_tables.specs.Internal.Sums.{customer_sums_key}
use Rattle.tpcc_tables.proofs.Fresh.{fresh_customer}
use Rattle.tpcc_tables.proofs.Load.{loaded_customer}
use Rattle.tpcc_tables.proofs.SumRanges.{held_grow}
use Rattle.tpcc_tables.proofs.SumEntries.{new_customer, new_customer_key}
use Rattle.tpcc_tables.proofs.tables.Tables.load_customer.Goals as goal

pub invariant_of-self-2 : goal.invariant_of-self-2
invariant_of-self-2 c =
    let fault = subst (λ (t : TablesView). customer_fault t.rows c.args.row ≡ None) (sym c.self.view_is) (sym c.of_customer.ensures ∙ c.in_default.is) in
    record {
      well_keyed = rw (c.insert_in_room.ensures, c.reserve_one.ensures.same) (loaded_customer (rows_of c.self.inside) c.args.row fault c.self.invariant.well_keyed);
      names = rw (c.in_default-load.ensures.loaded, c.insert_in_room.ensures, c.reserve_one.ensures.same) (ap (inserted name_before (name_of c.args.row)) c.self.invariant.names ∙ sym (names_loaded (by_key customer_key) c.args.row c.self.inside.customers.items));
      sums = rw (c.insert_in_room.ensures, c.reserve_one.ensures.same) (record {
        warehouses = c.self.invariant.sums.warehouses;
        districts = c.self.invariant.sums.districts;
        customers = new_customer (rows_of c.self.inside) c.self.invariant.well_keyed.parents c.self.inside.sums c.args.row _ (new_customer_key (rows_of c.self.inside) c.args.row fault) c.self.invariant.sums (c.insert_one.ensures ∙ (λ i. inserted (by_key customer_sums_key) (c.none-entry.ensures i) (c.reserve.ensures.items i)));
      });
      ready = c.self.invariant.ready;
      payments = c.self.invariant.payments;
    }

pub insert_one-requires-clause-keyed : goal.insert_one-requires-clause-keyed
insert_one-requires-clause-keyed c = rw c.reserve.ensures.items (held_grow c.self.inside c.self.invariant).customers

pub insert_in_room-requires-clause-fresh : goal.insert_in_room-requires-clause-fresh
insert_in_room-requires-clause-fresh c =
    rw c.reserve_one.ensures.same (fresh_customer (rows_of c.self.inside) c.args.row (subst (λ (t : TablesView). customer_fault t.rows c.args.row ≡ None) (sym c.self.view_is) (sym c.of_customer.ensures ∙ c.in_default.is)))

pub insert_in_room-requires-clause-room : goal.insert_in_room-requires-clause-room
insert_in_room-requires-clause-room c = search rules
