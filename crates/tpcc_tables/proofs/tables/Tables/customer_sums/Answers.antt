use Rattle.std.proofs.Common.{ap, ◌∙◌, [], ◌∷◌}
use Rattle.std.specs.Prelude.{unwrap_or, find}
use Rattle.tpcc_rows.specs.declared.tables.rows.CustomerRow.{CustomerRow}
use Rattle.tpcc_tables.specs.TablesView.{TablesView}
use Rattle.tpcc_tables.specs.Internal.Sums.{customer_sums, customer_sums_key, no_customer_sums, has_key}
use Rattle.tpcc_tables.specs.Internal.View.{rows_of}
use Rattle.tpcc_tables.proofs.SumEntries.{customer_found}
use Rattle.tpcc_tables.proofs.Sum.{in_order}
use Rattle.tpcc_tables.proofs.tables.Tables.customer_sums.Goals as goal

pub of_customer-requires : goal.of_customer-requires
of_customer-requires c =
    let rows = rows_of c.self.inside in
    record { keyed = in_order (λ (x : CustomerRow). customer_sums rows x.warehouse x.district x.id) customer_sums_key c.as_slice.result.now rows.customers (c.as_slice.ensures.value ∙ c.self.invariant.sums.customers) c.self.invariant.well_keyed.keyed.customers }

pub returns : goal.returns
returns c =
    c.of_customer.ensures
    ∙ ap (λ es. unwrap_or (find (has_key customer_sums_key (c.args.warehouse ∷ c.args.district ∷ c.args.customer ∷ [])) es) (no_customer_sums c.args.warehouse c.args.district c.args.customer)) c.as_slice.ensures.value
    ∙ customer_found (rows_of c.self.inside) c.self.invariant.well_keyed.parents c.self.inside.sums c.args.warehouse c.args.district c.args.customer c.self.invariant.sums
    ∙ ap (λ (t : TablesView). customer_sums t.rows c.args.warehouse c.args.district c.args.customer) c.self.view_is
