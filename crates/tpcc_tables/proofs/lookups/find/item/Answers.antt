use Rattle.std.proofs.Common.{◌∙◌, [], ◌∷◌}
use Rattle.tpcc_rows.specs.Tables.{is_item, item_key}
use Rattle.tpcc_storage.specs.Searches.{is_same_key}
use Rattle.tpcc_storage.proofs.Halves.{same_find}
use Rattle.tpcc_tables.proofs.KeyTests.{item_test}
use Rattle.tpcc_tables.proofs.lookups.find.item.Goals as goal

pub returns : goal.returns
returns c = c.find.ensures ∙ same_find (λ row. is_same_key (item_key row) (c.args.item ∷ [])) (is_item c.args.item) (item_test c.args.item) c.args.rows.now.items
