use Rattle.std.proofs.Common.{◌∙◌, [], ◌∷◌}
use Rattle.tpcc_rows.specs.Tables.{is_stock, stock_key}
use Rattle.tpcc_storage.specs.Searches.{is_same_key}
use Rattle.tpcc_storage.proofs.Halves.{same_find}
use Rattle.tpcc_tables.proofs.KeyTests.{stock_test}
use Rattle.tpcc_tables.proofs.lookups.find.stock.Goals as goal

pub returns : goal.returns
returns c = c.find.ensures ∙ same_find (λ row. is_same_key (stock_key row) (c.args.warehouse ∷ c.args.item ∷ [])) (is_stock c.args.warehouse c.args.item) (stock_test c.args.warehouse c.args.item) c.args.rows.now.items
