use Rattle.std.proofs.Common.{◌∙◌, sym, [], ◌∷◌}
use Rattle.tpcc_rows.specs.Tables.{is_district, district_key}
use Rattle.tpcc_rows.specs.NewOrder.{with_next_order}
use Rattle.tpcc_storage.specs.Searches.{is_same_key}
use Rattle.tpcc_storage.proofs.Halves.{same_find}
use Rattle.tpcc_storage.proofs.Change.{same_updated}
use Rattle.tpcc_tables.proofs.KeyTests.{district_test}
use Rattle.tpcc_tables.proofs.changes.order_number.raise_next_order.Goals as goal

pub change-requires-clause-fits : goal.change-requires-clause-fits
change-requires-clause-fits c =
    λ row found. c.requires.fits row (sym (same_find (λ row. is_same_key (district_key row) (c.args.warehouse ∷ c.args.district ∷ [])) (is_district c.args.warehouse c.args.district) (district_test c.args.warehouse c.args.district) c.args.rows.now.items) ∙ found)

pub returns : goal.returns
returns c = c.change.ensures ∙ same_updated (λ row. is_same_key (district_key row) (c.args.warehouse ∷ c.args.district ∷ [])) (is_district c.args.warehouse c.args.district) with_next_order (district_test c.args.warehouse c.args.district) c.args.rows.now.items
