use Rattle.std.proofs.Common.{◌∙◌, [], ◌∷◌}
use Rattle.tpcc_rows.specs.Tables.{is_order, order_key}
use Rattle.tpcc_storage.specs.Searches.{is_same_key}
use Rattle.tpcc_storage.proofs.Halves.{same_find}
use Rattle.tpcc_tables.proofs.KeyTests.{order_test}
use Rattle.tpcc_tables.proofs.lookups.find.order.Goals as goal

pub returns : goal.returns
returns c = c.find.ensures ∙ same_find (λ row. is_same_key (order_key row) (c.args.warehouse ∷ c.args.district ∷ c.args.order ∷ [])) (is_order c.args.warehouse c.args.district c.args.order) (order_test c.args.warehouse c.args.district c.args.order) c.args.rows.now.rows
