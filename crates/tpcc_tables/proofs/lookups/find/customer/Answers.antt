use Rattle.std.proofs.Common.{◌∙◌, [], ◌∷◌}
use Rattle.tpcc_rows.specs.Tables.{is_customer, customer_key}
use Rattle.tpcc_storage.specs.Searches.{is_same_key}
use Rattle.tpcc_storage.proofs.Halves.{same_find}
use Rattle.tpcc_tables.proofs.KeyTests.{customer_test}
use Rattle.tpcc_tables.proofs.lookups.find.customer.Goals as goal

pub returns : goal.returns
returns c = c.find.ensures ∙ same_find (λ row. is_same_key (customer_key row) (c.args.warehouse ∷ c.args.district ∷ c.args.customer ∷ [])) (is_customer c.args.warehouse c.args.district c.args.customer) (customer_test c.args.warehouse c.args.district c.args.customer) c.args.rows.now.items
