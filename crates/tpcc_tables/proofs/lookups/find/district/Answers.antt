use Rattle.std.proofs.Common.{◌∙◌, [], ◌∷◌}
use Rattle.tpcc_rows.specs.Tables.{is_district, district_key}
use Rattle.tpcc_storage.specs.Searches.{is_same_key}
use Rattle.tpcc_storage.proofs.Halves.{same_find}
use Rattle.tpcc_tables.proofs.KeyTests.{district_test}
use Rattle.tpcc_tables.proofs.lookups.find.district.Goals as goal

pub returns : goal.returns
returns c = c.find.ensures ∙ same_find (λ row. is_same_key (district_key row) (c.args.warehouse ∷ c.args.district ∷ [])) (is_district c.args.warehouse c.args.district) (district_test c.args.warehouse c.args.district) c.args.rows.now.items
