use Rattle.std.proofs.Common.{◌∙◌, sym, [], ◌∷◌}
use Rattle.tpcc_rows.specs.Tables.{is_customer, customer_key}
use Rattle.tpcc_rows.specs.Delivery.{delivered_customer}
use Rattle.tpcc_storage.specs.Searches.{is_same_key}
use Rattle.tpcc_storage.proofs.Halves.{same_find}
use Rattle.tpcc_storage.proofs.Change.{same_updated}
use Rattle.tpcc_tables.proofs.KeyTests.{customer_test}
use Rattle.tpcc_tables.proofs.changes.delivery.charge.Goals as goal

pub change-requires-clause-fits : goal.change-requires-clause-fits
change-requires-clause-fits c =
    λ row found. c.requires.fits row (sym (same_find (λ row. is_same_key (customer_key row) (c.args.warehouse ∷ c.args.district ∷ c.args.customer ∷ [])) (is_customer c.args.warehouse c.args.district c.args.customer) (customer_test c.args.warehouse c.args.district c.args.customer) c.args.rows.now.items) ∙ found)

pub returns : goal.returns
returns c = c.change.ensures ∙ same_updated (λ row. is_same_key (customer_key row) (c.args.warehouse ∷ c.args.district ∷ c.args.customer ∷ [])) (is_customer c.args.warehouse c.args.district c.args.customer) (delivered_customer c.args.amount) (customer_test c.args.warehouse c.args.district c.args.customer) c.args.rows.now.items
