use Rattle.std.proofs.Common.{ap, ◌∙◌, [], ◌∷◌}
use Rattle.std.specs.Prelude.{unwrap_or, find}
use Rattle.tpcc_rows.specs.declared.tables.rows.DistrictRow.{DistrictRow}
use Rattle.tpcc_tables.specs.TablesView.{TablesView}
use Rattle.tpcc_tables.specs.Internal.Sums.{district_sums, district_sums_key, no_district_sums, has_key}
use Rattle.tpcc_tables.specs.Internal.View.{rows_of}
use Rattle.tpcc_tables.proofs.SumEntries.{district_found}
use Rattle.tpcc_tables.proofs.Sum.{in_order}
use Rattle.tpcc_tables.proofs.tables.Tables.district_sums.Goals as goal

pub of_district-requires : goal.of_district-requires
of_district-requires c =
    let rows = rows_of c.self.inside in
    record { keyed = in_order (λ (x : DistrictRow). district_sums rows x.warehouse x.id) district_sums_key c.as_slice.result.now rows.districts (c.as_slice.ensures.value ∙ c.self.invariant.sums.districts) c.self.invariant.well_keyed.keyed.districts }

pub returns : goal.returns
returns c =
    c.of_district.ensures
    ∙ ap (λ es. unwrap_or (find (has_key district_sums_key (c.args.warehouse ∷ c.args.district ∷ [])) es) (no_district_sums c.args.warehouse c.args.district)) c.as_slice.ensures.value
    ∙ district_found (rows_of c.self.inside) c.self.invariant.well_keyed.parents c.self.inside.sums c.args.warehouse c.args.district c.self.invariant.sums
    ∙ ap (λ (t : TablesView). district_sums t.rows c.args.warehouse c.args.district) c.self.view_is
