use Rattle.std.proofs.Common.{◌∙◌, [], ◌∷◌}
use Rattle.tpcc_rows.specs.Tables.{order_line_key}
use Rattle.tpcc_tables.specs.Loads.{is_order_line}
use Rattle.tpcc_storage.specs.Searches.{is_same_key}
use Rattle.tpcc_storage.proofs.Halves.{same_find}
use Rattle.tpcc_tables.proofs.KeyTests.{order_line_test}
use Rattle.tpcc_tables.proofs.lookups.find.line.Goals as goal

pub returns : goal.returns
returns c = c.find.ensures ∙ same_find (λ row. is_same_key (order_line_key row) (c.args.warehouse ∷ c.args.district ∷ c.args.order ∷ c.args.number ∷ [])) (is_order_line c.args.warehouse c.args.district c.args.order c.args.number) (order_line_test c.args.warehouse c.args.district c.args.order c.args.number) c.args.rows.now.rows
