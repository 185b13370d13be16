use Rattle.std.proofs.Common.{◌∙◌, ap, sym, arith, Some, None, filter}
use Rattle.std.specs.Prelude.{flat_map}
use Rattle.std.specs.Option.{option_copied}
use Rattle.tpcc_storage.specs.ByDistrict.{ByDistrictView, district_numbers, is_of}
use Rattle.tpcc_storage.specs.Internal.ByDistrict.{rows_or_none}
use Rattle.tpcc_storage.specs.Internal.DistrictWords.{rows_in, is_part}
use Rattle.tpcc_storage.proofs.Flat.{no_rows}
use Rattle.tpcc_storage.proofs.Part.{asks_district, no_row, part_is, part_owns, placed, rows_chosen, whole_part}
use Rattle.tpcc_storage.proofs.Put.{line_within}
use Rattle.tpcc_storage.proofs.by_district.ByDistrict.part_of.Goals as goal

pub returns-in_err-place : goal.returns-in_err-place
unfolding rows_or_none
returns-in_err-place g c =
    let k = district_numbers c.args.owner in
    let parts = c.self.inside.parts.items in
    ap (λ found. rows_or_none (option_copied found)) c.from_residual.ensures
    ∙ sym (no_rows rows_in (is_part k) (λ row. is_of c.args.owner (g.T.KeyedRow.key row)) (flat_map rows_in parts)
    (no_row g.T.KeyedRow.key c.self.inside.len c.self.inside.room parts c.self.invariant k (λ row. is_of c.args.owner (g.T.KeyedRow.key row)) (asks_district g.T.KeyedRow.key c.args.owner)
    (placed (is_part k) c.as_slice.result.now parts c.place_of.result None c.as_slice.ensures.value c.place_of.ensures c.in_err-place.was)))
    ∙ ap (λ (t : ByDistrictView g.row.T.Denot). filter (λ row. is_of c.args.owner (g.T.KeyedRow.key row)) t.rows) c.self.view_is

pub returns : goal.returns
unfolding rows_or_none
returns g c =
    let k = district_numbers c.args.owner in
    let parts = c.self.inside.parts.items in
    let at = placed (is_part k) c.as_slice.result.now parts c.place_of.result (Some c.in_ok-place.place) c.as_slice.ensures.value c.place_of.ensures c.in_ok-place.was in
    sym (whole_part g.T.KeyedRow.key c.args.owner c.index.result.now
    (part_owns g.T.KeyedRow.key c.self.inside.len c.self.inside.room parts c.self.invariant k c.in_ok-place.place c.index.result.now at c.index.ensures)
    (part_is g.T.KeyedRow.key c.self.inside.len c.self.inside.room parts c.self.invariant k c.in_ok-place.place c.index.result.now at c.index.ensures))
    ∙ sym (rows_chosen g.T.KeyedRow.key c.self.inside.len c.self.inside.room parts c.self.invariant k c.in_ok-place.place c.index.result.now at
    c.index.ensures (λ row. is_of c.args.owner (g.T.KeyedRow.key row)) (asks_district g.T.KeyedRow.key c.args.owner))
    ∙ ap (λ (t : ByDistrictView g.row.T.Denot). filter (λ row. is_of c.args.owner (g.T.KeyedRow.key row)) t.rows) c.self.view_is

pub index-requires : goal.index-requires
index-requires g c = omega (arith, c.as_slice.ensures.len, line_within (is_part (district_numbers c.args.owner)) c.as_slice.result.now c.in_ok-place.place (sym c.place_of.ensures ∙ c.in_ok-place.was))
