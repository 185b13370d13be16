use Rattle.std.proofs.Common.{◌∙◌, ap, sym, map}
use Rattle.std.specs.Prelude.{flat_map}
use Rattle.std.specs.List.{list_any}
use Rattle.std.proofs.Common.{subst, List}
use Rattle.tpcc_storage.specs.Internal.DistrictRows.{DistrictRows}
use Rattle.tpcc_storage.specs.ByDistrict.{ByDistrictView, district_numbers, has_owner}
use Rattle.tpcc_storage.specs.Internal.DistrictWords.{rows_in, owner_of, is_part, AreDistricts}
use Rattle.tpcc_storage.proofs.Open.{owner_opened, owners_opened, parts_opened, rows_opened}
use Rattle.tpcc_storage.proofs.Owner.{no_place, on_either, on_ok_then, owner_is_part, placed_any}
use Rattle.tpcc_storage.proofs.by_district.ByDistrict.open.Goals as goal

pub returns-then-is_some-clause-opened : goal.returns-then-is_some-clause-opened
returns-then-is_some-clause-opened g c =
    let k = district_numbers c.args.owner in
    sym (ap (λ (t : ByDistrictView g.row.T.Denot). has_owner t.owners k) c.self.view_is)
    ∙ owner_is_part c.self.inside.parts.items k
    ∙ sym (ap (list_any (is_part k)) c.as_slice.ensures.value)
    ∙ placed_any (is_part k) c.as_slice.result.now c.place_of.result c.place_of.ensures (sym c.is_some.ensures ∙ c.if-is_some.true)

pub invariant_of-self : goal.invariant_of-self
invariant_of-self g c =
    let k = district_numbers c.args.owner in
    let parts = c.self.inside.parts.items in
    let none = no_place (is_part k) c.as_slice.result.now parts c.place_of.result c.as_slice.ensures.value c.place_of.ensures (sym c.is_some.ensures ∙ c.if-is_some.false) in
    on_either c.open_district.result c.open_district.ensures.opened c.open_district.ensures.same
    (λ opened. parts_opened c.args.owner c.self.inside.room parts c.open_district.new.parts.items opened g.T.KeyedRow.key c.self.inside.len c.self.invariant none)
    (λ same. subst (AreDistricts g.T.KeyedRow.key c.self.inside.len c.self.inside.room) (sym same) c.self.invariant)

pub returns-clause-rows : goal.returns-clause-rows
returns-clause-rows g c =
    on_either c.open_district.result c.open_district.ensures.opened c.open_district.ensures.same
    (λ opened. rows_opened c.args.owner c.self.inside.room c.self.inside.parts.items c.open_district.new.parts.items opened)
    (λ same. ap (flat_map rows_in) same)
    ∙ ap (λ (t : ByDistrictView g.row.T.Denot). t.rows) c.self.view_is

pub returns-clause-kept : goal.returns-clause-kept
returns-clause-kept g c = λ k has.
    let had = ap (λ (t : ByDistrictView g.row.T.Denot). has_owner t.owners k) c.self.view_is ∙ has in
    on_either c.open_district.result c.open_district.ensures.opened c.open_district.ensures.same
    (λ opened. owners_opened c.args.owner c.self.inside.room c.self.inside.parts.items c.open_district.new.parts.items opened k had)
    (λ same. ap (λ (parts : List (DistrictRows g.row.T.Denot)). has_owner (map owner_of parts) k) same ∙ had)

pub returns-clause-opened : goal.returns-clause-opened
returns-clause-opened g c =
    on_ok_then c.open_district.result c.open_district.ensures.opened
    (λ opened. owner_opened c.args.owner c.self.inside.room c.self.inside.parts.items c.open_district.new.parts.items opened)
