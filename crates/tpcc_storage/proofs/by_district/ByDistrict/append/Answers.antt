use Rattle.std.proofs.Common.{◌≡◌, ◌+◌, ◌-◌, ◌<◌, ◌∙◌, ap, sym, arith, length, Some}
use Rattle.std.proofs.lemmas.List.Quantifiers.{position-Some}
use Rattle.tpcc_rows.specs.Lists.{by_key, inserted, is_ascending}
use Rattle.tpcc_storage.specs.ByDistrict.{ByDistrictView, district_numbers}
use Rattle.tpcc_storage.specs.Internal.DistrictWords.{is_part, HasRoom}
use Rattle.tpcc_storage.proofs.Owner.{part_placed}
use Rattle.tpcc_storage.proofs.Part.{part_found, part_is, part_owns, placed}
use Rattle.tpcc_storage.proofs.Put.{length_inserted, length_set, line_within, owners_kept, owns_inserted, part_keyed, parts_kept, room_there, rows_inserted}
use Rattle.tpcc_storage.proofs.by_district.ByDistrict.append.Goals as goal

pub unwrap-place-requires : goal.unwrap-place-requires
unwrap-place-requires g c =
    part_placed c.self.inside.parts.items c.args.self.now.owners c.owner.result (g.T.KeyedRow.key c.args.row) c.as_slice.result.now c.place_of.result (ap (λ (t : ByDistrictView g.row.T.Denot). t.owners) c.self.view_is) c.requires.owner c.owner.ensures c.as_slice.ensures.value c.place_of.ensures

pub put_in_room-requires-clause-keyed : goal.put_in_room-requires-clause-keyed
put_in_room-requires-clause-keyed g c =
    let k = district_numbers c.owner.result in
    let parts = c.self.inside.parts.items in
    let at = placed (is_part k) c.as_slice.result.now parts c.place_of.result (Some c.unwrap-place.result) c.as_slice.ensures.value c.place_of.ensures c.unwrap-place.ensures in
    part_keyed g.T.KeyedRow.key (is_part k) parts c.index_mut.result.now (ap (λ (t : ByDistrictView g.row.T.Denot). is_ascending g.T.KeyedRow.key t.rows) c.self.view_is ∙ c.requires.keyed)
    (part_found g.T.KeyedRow.key c.self.inside.len c.self.inside.room parts c.self.invariant k c.unwrap-place.result c.index_mut.result.now at c.index_mut.ensures.value)

pub invariant_of-self : goal.invariant_of-self
invariant_of-self g c =
    let k = district_numbers c.owner.result in
    let parts = c.self.inside.parts.items in
    let at = placed (is_part k) c.as_slice.result.now parts c.place_of.result (Some c.unwrap-place.result) c.as_slice.ensures.value c.place_of.ensures c.unwrap-place.ensures in
    let within : c.unwrap-place.result < length parts = (position-Some (is_part k) parts c.unwrap-place.result c.index_mut.result.now at).0 in
    let own = part_owns g.T.KeyedRow.key c.self.inside.len c.self.inside.room parts c.self.invariant k c.unwrap-place.result c.index_mut.result.now at c.index_mut.ensures.value in
    let numbers = part_is g.T.KeyedRow.key c.self.inside.len c.self.inside.room parts c.self.invariant k c.unwrap-place.result c.index_mut.result.now at c.index_mut.ensures.value in
    let longer : length c.put_in_room.new.self.rows.items ≡ length c.index_mut.result.now.rows.items + 1 = ap length c.put_in_room.ensures.rows ∙ length_inserted (by_key g.T.KeyedRow.key) c.args.row c.index_mut.result.now.rows.items in
    let all = length_set parts c.unwrap-place.result c.index_mut.result.now c.put_in_room.new.self within c.index_mut.ensures.value in
    let room : HasRoom c.self.inside.room c.index_mut.result.now = room_there c.self.inside.room parts c.unwrap-place.result c.index_mut.result.now c.self.invariant.roomy within c.index_mut.ensures.value in
    let some : 0 < c.self.inside.room = omega (arith, c.requires.room, ap (λ (t : ByDistrictView g.row.T.Denot). t.room) c.self.view_is) in
    parts_kept g.T.KeyedRow.key c.self.inside.len c.self.inside.room parts c.self.invariant c.unwrap-place.result c.index_mut.result.now c.put_in_room.new.self c.index_mut.ensures.value c.put_in_room.ensures.owner
    (c.self.inside.len + 1) (c.self.inside.room - 1) (omega arith) (omega (arith, some, c.self.invariant.bound)) (omega (arith, longer, all, c.self.invariant.counted))
    (owns_inserted g.T.KeyedRow.key c.index_mut.result.now c.put_in_room.new.self c.put_in_room.ensures.owner own c.args.row (sym c.owner.ensures ∙ sym numbers) c.put_in_room.ensures.rows)
    (omega (arith, longer, room, some, c.put_in_room.ensures.capacity))

pub returns-clause-rows : goal.returns-clause-rows
returns-clause-rows g c =
    let k = district_numbers c.owner.result in
    let parts = c.self.inside.parts.items in
    let at = placed (is_part k) c.as_slice.result.now parts c.place_of.result (Some c.unwrap-place.result) c.as_slice.ensures.value c.place_of.ensures c.unwrap-place.ensures in
    rows_inserted g.T.KeyedRow.key c.args.row k (sym c.owner.ensures) c.self.inside.len c.self.inside.room parts c.self.invariant c.unwrap-place.result c.index_mut.result.now at c.index_mut.ensures.value c.put_in_room.new.self c.put_in_room.ensures.rows
    ∙ ap (λ (t : ByDistrictView g.row.T.Denot). inserted (by_key g.T.KeyedRow.key) c.args.row t.rows) c.self.view_is

pub returns-clause-owners : goal.returns-clause-owners
returns-clause-owners g c =
    owners_kept g.T.KeyedRow.key c.self.inside.len c.self.inside.room c.self.inside.parts.items c.self.invariant c.unwrap-place.result c.index_mut.result.now c.put_in_room.new.self c.index_mut.ensures.value c.put_in_room.ensures.owner
    ∙ ap (λ (t : ByDistrictView g.row.T.Denot). t.owners) c.self.view_is

pub index_mut-requires : goal.index_mut-requires
index_mut-requires g c = omega (arith, c.as_slice.ensures.len, line_within (is_part (district_numbers c.owner.result)) c.as_slice.result.now c.unwrap-place.result (sym c.place_of.ensures ∙ c.unwrap-place.ensures))

pub put_in_room-requires-clause-room : goal.put_in_room-requires-clause-room
put_in_room-requires-clause-room g c =
    let k = district_numbers c.owner.result in
    let at = placed (is_part k) c.as_slice.result.now c.self.inside.parts.items c.place_of.result (Some c.unwrap-place.result) c.as_slice.ensures.value c.place_of.ensures c.unwrap-place.ensures in
    let room : HasRoom c.self.inside.room c.index_mut.result.now = room_there c.self.inside.room c.self.inside.parts.items c.unwrap-place.result c.index_mut.result.now c.self.invariant.roomy (line_within (is_part k) c.self.inside.parts.items c.unwrap-place.result at) c.index_mut.ensures.value in
    omega (arith, room, c.requires.room, ap (λ (t : ByDistrictView g.row.T.Denot). t.room) c.self.view_is)

pub overflow_add-self : goal.overflow_add-self
overflow_add-self g c = omega (arith, c.self.invariant.bound, c.requires.room, ap (λ (t : ByDistrictView g.row.T.Denot). t.room) c.self.view_is)

pub overflow_sub-self : goal.overflow_sub-self
overflow_sub-self g c = omega (arith, c.requires.room, ap (λ (t : ByDistrictView g.row.T.Denot). t.room) c.self.view_is)

pub returns-clause-room : goal.returns-clause-room
returns-clause-room g c = omega (arith, c.requires.room, ap (λ (t : ByDistrictView g.row.T.Denot). t.room) c.self.view_is)
