use Rattle.std.proofs.Common.{ap, sym, ◌∙◌}
use Rattle.tpcc_rows.specs.declared.transactions.requests.Who.TheVariants.{Name}
use Rattle.tpcc_rows.specs.ChosenCustomer.{chosen_customer}
use Rattle.tpcc_rows.specs.Tables.{find_customer}
use Rattle.tpcc_storage.specs.Names.{middle_id}
use Rattle.tpcc_storage.proofs.NameLaws.{middle_found, middle_none}
use Rattle.tpcc_tables.specs.TablesView.{TablesView}
use Rattle.tpcc_tables.specs.Internal.View.{rows_of}
use Rattle.tpcc_tables.proofs.tables.Tables.customer_by_name.Goals as goal

pub returns-in-Some : goal.returns-in-Some
returns-in-Some c =
    c.customer.ensures
    ∙ ap (λ (t : TablesView). find_customer t.rows c.args.warehouse c.args.district c.in-Some.customer) (sym c.self.view_is)
    ∙ middle_found (rows_of c.self.inside) c.args.warehouse c.args.district c.args.last.now c.in-Some.customer c.self.invariant.well_keyed.keyed.customers (ap (middle_id c.args.warehouse c.args.district c.args.last.now) (sym c.self.invariant.names) ∙ sym c.middle.ensures ∙ c.in-Some.is)
    ∙ ap (λ (t : TablesView). chosen_customer t.rows c.args.warehouse c.args.district (Name c.args.last.now)) c.self.view_is

pub returns-in-None : goal.returns-in-None
returns-in-None c =
    middle_none (rows_of c.self.inside) c.args.warehouse c.args.district c.args.last.now c.self.invariant.well_keyed.keyed.customers (ap (middle_id c.args.warehouse c.args.district c.args.last.now) (sym c.self.invariant.names) ∙ sym c.middle.ensures ∙ c.in-None.is)
    ∙ ap (λ (t : TablesView). chosen_customer t.rows c.args.warehouse c.args.district (Name c.args.last.now)) c.self.view_is
