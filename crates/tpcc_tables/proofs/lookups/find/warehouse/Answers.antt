use Rattle.std.proofs.Common.{◌∙◌, [], ◌∷◌}
use Rattle.tpcc_rows.specs.Tables.{is_warehouse, warehouse_key}
use Rattle.tpcc_storage.specs.Searches.{is_same_key}
use Rattle.tpcc_storage.proofs.Halves.{same_find}
use Rattle.tpcc_tables.proofs.KeyTests.{warehouse_test}
use Rattle.tpcc_tables.proofs.lookups.find.warehouse.Goals as goal

pub returns : goal.returns
returns c = c.find.ensures ∙ same_find (λ row. is_same_key (warehouse_key row) (c.args.warehouse ∷ [])) (is_warehouse c.args.warehouse) (warehouse_test c.args.warehouse) c.args.rows.now.items
