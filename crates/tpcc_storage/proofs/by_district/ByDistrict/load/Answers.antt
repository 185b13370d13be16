use Rattle.std.proofs.Common.{◌≡◌, ◌+◌, ◌∙◌, ap, sym, refl, arith, length, Some}
use Rattle.tpcc_rows.specs.Lists.{by_key, inserted, is_ascending}
use Rattle.tpcc_storage.specs.ByDistrict.{ByDistrictView, district_numbers, has_owner}
use Rattle.tpcc_storage.specs.Internal.DistrictWords.{is_part, HasRoom}
use Rattle.tpcc_storage.proofs.Owner.{on_err_any, part_placed}
use Rattle.tpcc_storage.proofs.Part.{part_found, part_is, part_owns, placed}
use Rattle.tpcc_storage.proofs.Put.{length_inserted, length_set, line_within, owners_kept, owns_inserted, owns_same, part_keyed, parts_kept, room_there, rows_inserted, rows_same}
use Rattle.tpcc_storage.proofs.by_district.ByDistrict.load.Goals as goal

pub unwrap-place-requires : goal.unwrap-place-requires
unwrap-place-requires g c =
    part_placed c.self-2.inside.parts.items c.open.new.self.owners c.owner-owner.result (district_numbers c.owner-owner.result) c.as_slice.result.now c.place_of.result (ap (λ (t : ByDistrictView g.row.T.Denot). t.owners) c.self-2.view_is) c.in_ok-open.ensures.opened refl c.as_slice.ensures.value c.place_of.ensures

pub put-requires : goal.put-requires
put-requires g c =
    let k = district_numbers c.owner-owner.result in
    let parts = c.self-2.inside.parts.items in
    let at = placed (is_part k) c.as_slice.result.now parts c.place_of.result (Some c.unwrap-place.result) c.as_slice.ensures.value c.place_of.ensures c.unwrap-place.ensures in
    record {
      keyed = part_keyed g.T.KeyedRow.key (is_part k) parts c.index_mut.result.now
          (ap (λ (t : ByDistrictView g.row.T.Denot). is_ascending g.T.KeyedRow.key t.rows) c.self-2.view_is ∙ ap (is_ascending g.T.KeyedRow.key) c.open.ensures.rows ∙ c.requires.keyed)
          (part_found g.T.KeyedRow.key c.self-2.inside.len c.self-2.inside.room parts c.self-2.invariant k c.unwrap-place.result c.index_mut.result.now at c.index_mut.ensures.value);
    }

pub invariant_of-self : goal.invariant_of-self
invariant_of-self g c =
    let k = district_numbers c.owner-owner.result in
    let parts = c.self-2.inside.parts.items in
    let at = placed (is_part k) c.as_slice.result.now parts c.place_of.result (Some c.unwrap-place.result) c.as_slice.ensures.value c.place_of.ensures c.unwrap-place.ensures in
    let within = line_within (is_part k) parts c.unwrap-place.result at in
    let own = part_owns g.T.KeyedRow.key c.self-2.inside.len c.self-2.inside.room parts c.self-2.invariant k c.unwrap-place.result c.index_mut.result.now at c.index_mut.ensures.value in
    let equal : length c.put.new.self.rows.items ≡ length c.index_mut.result.now.rows.items = ap length c.in_err-put.ensures.same in
    let all = length_set parts c.unwrap-place.result c.index_mut.result.now c.put.new.self within c.index_mut.ensures.value in
    let room : HasRoom c.self-2.inside.room c.index_mut.result.now = room_there c.self-2.inside.room parts c.unwrap-place.result c.index_mut.result.now c.self-2.invariant.roomy within c.index_mut.ensures.value in
    parts_kept g.T.KeyedRow.key c.self-2.inside.len c.self-2.inside.room parts c.self-2.invariant c.unwrap-place.result c.index_mut.result.now c.put.new.self c.index_mut.ensures.value c.put.ensures.owner
    c.self-2.inside.len c.self-2.inside.room (omega arith) c.self-2.invariant.bound (omega (arith, equal, all, c.self-2.invariant.counted))
    (owns_same g.T.KeyedRow.key c.index_mut.result.now c.put.new.self c.put.ensures.owner own c.in_err-put.ensures.same)
    (omega (arith, equal, room, c.put.ensures.capacity))

pub returns-in_err-put-clause-same : goal.returns-in_err-put-clause-same
returns-in_err-put-clause-same g c =
    on_err_any c.from_residual-in_err-put.result
    (rows_same c.self-2.inside.parts.items c.unwrap-place.result c.index_mut.result.now c.put.new.self c.index_mut.ensures.value c.in_err-put.ensures.same
    ∙ ap (λ (t : ByDistrictView g.row.T.Denot). t.rows) c.self-2.view_is ∙ c.open.ensures.rows)

pub returns-in_err-put-clause-kept : goal.returns-in_err-put-clause-kept
returns-in_err-put-clause-kept g c = λ k has.
    ap (λ owners. has_owner owners k) (owners_kept g.T.KeyedRow.key c.self-2.inside.len c.self-2.inside.room c.self-2.inside.parts.items c.self-2.invariant c.unwrap-place.result c.index_mut.result.now c.put.new.self c.index_mut.ensures.value c.put.ensures.owner)
    ∙ ap (λ (t : ByDistrictView g.row.T.Denot). has_owner t.owners k) c.self-2.view_is
    ∙ c.open.ensures.kept k has

pub invariant_of-self-2 : goal.invariant_of-self-2
invariant_of-self-2 g c =
    let k = district_numbers c.owner-owner.result in
    let parts = c.self-2.inside.parts.items in
    let at = placed (is_part k) c.as_slice.result.now parts c.place_of.result (Some c.unwrap-place.result) c.as_slice.ensures.value c.place_of.ensures c.unwrap-place.ensures in
    let within = line_within (is_part k) parts c.unwrap-place.result at in
    let own = part_owns g.T.KeyedRow.key c.self-2.inside.len c.self-2.inside.room parts c.self-2.invariant k c.unwrap-place.result c.index_mut.result.now at c.index_mut.ensures.value in
    let numbers = part_is g.T.KeyedRow.key c.self-2.inside.len c.self-2.inside.room parts c.self-2.invariant k c.unwrap-place.result c.index_mut.result.now at c.index_mut.ensures.value in
    let longer : length c.put.new.self.rows.items ≡ length c.index_mut.result.now.rows.items + 1 = ap length c.in_ok-put.ensures.put ∙ length_inserted (by_key g.T.KeyedRow.key) c.args.row c.index_mut.result.now.rows.items in
    let all = length_set parts c.unwrap-place.result c.index_mut.result.now c.put.new.self within c.index_mut.ensures.value in
    let count : c.self-2.inside.len ≡ c.self.inside.len = c.self-2.invariant.counted ∙ ap (λ (t : ByDistrictView g.row.T.Denot). length t.rows) c.self-2.view_is ∙ ap length c.open.ensures.rows ∙ sym (c.self.invariant.counted ∙ ap (λ (t : ByDistrictView g.row.T.Denot). length t.rows) c.self.view_is) in
    parts_kept g.T.KeyedRow.key c.self-2.inside.len c.self-2.inside.room parts c.self-2.invariant c.unwrap-place.result c.index_mut.result.now c.put.new.self c.index_mut.ensures.value c.put.ensures.owner
    (c.self-2.inside.len + 1) 0 (omega arith) (omega (arith, count, c.if-self.false, c.self.invariant.bound)) (omega (arith, longer, all, c.self-2.invariant.counted))
    (owns_inserted g.T.KeyedRow.key c.index_mut.result.now c.put.new.self c.put.ensures.owner own c.args.row (sym c.owner-owner.ensures ∙ sym numbers) c.in_ok-put.ensures.put)
    c.in_ok-put.ensures.room

pub returns-clause-loaded : goal.returns-clause-loaded
returns-clause-loaded g c =
    let k = district_numbers c.owner-owner.result in
    let parts = c.self-2.inside.parts.items in
    let at = placed (is_part k) c.as_slice.result.now parts c.place_of.result (Some c.unwrap-place.result) c.as_slice.ensures.value c.place_of.ensures c.unwrap-place.ensures in
    rows_inserted g.T.KeyedRow.key c.args.row k (sym c.owner-owner.ensures) c.self-2.inside.len c.self-2.inside.room parts c.self-2.invariant c.unwrap-place.result c.index_mut.result.now at c.index_mut.ensures.value c.put.new.self c.in_ok-put.ensures.put
    ∙ ap (λ (t : ByDistrictView g.row.T.Denot). inserted (by_key g.T.KeyedRow.key) c.args.row t.rows) c.self-2.view_is
    ∙ ap (inserted (by_key g.T.KeyedRow.key) c.args.row) c.open.ensures.rows

pub returns-clause-kept : goal.returns-clause-kept
returns-clause-kept g c = λ k has.
    ap (λ owners. has_owner owners k) (owners_kept g.T.KeyedRow.key c.self-2.inside.len c.self-2.inside.room c.self-2.inside.parts.items c.self-2.invariant c.unwrap-place.result c.index_mut.result.now c.put.new.self c.index_mut.ensures.value c.put.ensures.owner)
    ∙ ap (λ (t : ByDistrictView g.row.T.Denot). has_owner t.owners k) c.self-2.view_is
    ∙ c.open.ensures.kept k has

pub index_mut-requires : goal.index_mut-requires
index_mut-requires g c = omega (arith, c.as_slice.ensures.len, line_within (is_part (district_numbers c.owner-owner.result)) c.as_slice.result.now c.unwrap-place.result (sym c.place_of.ensures ∙ c.unwrap-place.ensures))

pub overflow_add-self : goal.overflow_add-self
overflow_add-self g c =
    let count : c.self-2.inside.len ≡ c.self.inside.len = c.self-2.invariant.counted ∙ ap (λ (t : ByDistrictView g.row.T.Denot). length t.rows) c.self-2.view_is ∙ ap length c.open.ensures.rows ∙ sym (c.self.invariant.counted ∙ ap (λ (t : ByDistrictView g.row.T.Denot). length t.rows) c.self.view_is) in
    omega (arith, count, c.if-self.false, c.self.invariant.bound)

pub returns-in_err-open-clause-same : goal.returns-in_err-open-clause-same
returns-in_err-open-clause-same g c = on_err_any c.from_residual.result c.open.ensures.rows

pub returns-in_err-open-clause-room : goal.returns-in_err-open-clause-room
returns-in_err-open-clause-room g c = on_err_any c.from_residual.result c.open.ensures.room

pub returns-in_err-put-clause-room : goal.returns-in_err-put-clause-room
returns-in_err-put-clause-room g c =
    on_err_any c.from_residual-in_err-put.result (ap (λ (t : ByDistrictView g.row.T.Denot). t.room) c.self-2.view_is ∙ c.open.ensures.room)
