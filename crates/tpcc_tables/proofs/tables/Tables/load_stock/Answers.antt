use Rattle.std.proofs.Common.{sym, subst, ◌∙◌, ◌≡◌, None}
use Rattle.tpcc_tables.specs.TablesView.{TablesView}
use Rattle.tpcc_tables.specs.Internal.View.{rows_of}
use Rattle.tpcc_tables.specs.Loads.{stock_fault}
use Rattle.tpcc_tables.proofs.Fresh.{fresh_stock}
use Rattle.tpcc_tables.proofs.Load.{loaded_stock}
use Rattle.tpcc_tables.proofs.tables.Tables.load_stock.Goals as goal

pub invariant_of-self-2 : goal.invariant_of-self-2
invariant_of-self-2 c =
    let fault = subst (λ (t : TablesView). stock_fault t.rows c.args.row ≡ None) (sym c.self.view_is) (sym c.of_stock.ensures ∙ c.in_default.is) in
    record {
      well_keyed = rw c.in_default-insert.ensures.inserted (loaded_stock (rows_of c.self.inside) c.args.row fault c.self.invariant.well_keyed);
      names = c.self.invariant.names;
      sums = record {
        warehouses = c.self.invariant.sums.warehouses;
        districts = c.self.invariant.sums.districts;
        customers = c.self.invariant.sums.customers;
      };
      ready = c.self.invariant.ready;
      payments = c.self.invariant.payments;
    }

pub insert-requires-clause-fresh : goal.insert-requires-clause-fresh
insert-requires-clause-fresh c =
    fresh_stock (rows_of c.self.inside) c.args.row (subst (λ (t : TablesView). stock_fault t.rows c.args.row ≡ None) (sym c.self.view_is) (sym c.of_stock.ensures ∙ c.in_default.is))
