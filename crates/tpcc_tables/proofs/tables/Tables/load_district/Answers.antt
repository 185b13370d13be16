use Rattle.std.proofs.Common.{sym, subst, ◌∙◌, ◌≡◌, None}
use Rattle.tpcc_tables.specs.TablesView.{TablesView}
use Rattle.tpcc_tables.proofs.Ready.{ready-none}
use Rattle.tpcc_tables.specs.Internal.View.{rows_of}
use Rattle.tpcc_tables.specs.Loads.{district_fault}
use Rattle.tpcc_rows.specs.Lists.{by_key, inserted}
use Rattle.tpcc_tables.specs.Internal.Sums.{district_sums_key}
use Rattle.tpcc_tables.proofs.Fresh.{fresh_district}
use Rattle.tpcc_tables.proofs.Load.{loaded_district}
use Rattle.tpcc_tables.proofs.SumRanges.{held_grow}
use Rattle.tpcc_tables.proofs.SumEntries.{new_district, new_district_key}
use Rattle.tpcc_tables.proofs.tables.Tables.load_district.Goals as goal

pub invariant_of-self-2 : goal.invariant_of-self-2
invariant_of-self-2 c =
    let fault = subst (λ (t : TablesView). district_fault t.rows c.args.row ≡ None) (sym c.self.view_is) (sym c.of_district.ensures ∙ c.in_default.is) in
    record {
      well_keyed = rw c.in_default-insert.ensures.inserted (loaded_district (rows_of c.self.inside) c.args.row fault c.self.invariant.well_keyed);
      names = c.self.invariant.names;
      sums = rw c.in_default-insert.ensures.inserted (record {
        warehouses = c.self.invariant.sums.warehouses;
        districts = new_district (rows_of c.self.inside) c.self.invariant.well_keyed.parents c.self.inside.sums c.args.row _ (new_district_key (rows_of c.self.inside) c.args.row fault) c.self.invariant.sums (c.insert_one.ensures ∙ (λ i. inserted (by_key district_sums_key) (c.none-entry.ensures i) (c.reserve.ensures.items i)));
        customers = c.self.invariant.sums.customers;
      });
      ready = ready-none c.insert.new.self.items c.self.inside.orders c.self.inside.order_lines c.self.inside.new_orders;
      payments = c.self.invariant.payments;
    }

pub insert_one-requires-clause-keyed : goal.insert_one-requires-clause-keyed
insert_one-requires-clause-keyed c = rw c.reserve.ensures.items (held_grow c.self.inside c.self.invariant).districts

pub insert-requires-clause-fresh : goal.insert-requires-clause-fresh
insert-requires-clause-fresh c =
    fresh_district (rows_of c.self.inside) c.args.row (subst (λ (t : TablesView). district_fault t.rows c.args.row ≡ None) (sym c.self.view_is) (sym c.of_district.ensures ∙ c.in_default.is))
