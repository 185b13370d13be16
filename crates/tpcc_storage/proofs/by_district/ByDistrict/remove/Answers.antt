use Rattle.std.proofs.Common.{◌≡◌, ◌+◌, ◌-◌, ◌∙◌, ap, sym, refl, arith, length, Some, None}
use Rattle.std.specs.Prelude.{filter, not}
use Rattle.std.specs.List.{list_any}
use Rattle.std.proofs.lemmas.List.Edits.{length-remove}
use Rattle.tpcc_rows.specs.Lists.{is_ascending}
use Rattle.tpcc_storage.specs.Internal.DistrictRows.{DistrictRows}
use Rattle.tpcc_storage.specs.Searches.{is_same_key}
use Rattle.tpcc_storage.specs.ByDistrict.{ByDistrictView, district_numbers}
use Rattle.tpcc_storage.specs.Internal.DistrictWords.{is_part, HasRoom}
use Rattle.tpcc_storage.proofs.Change.{kept_all}
use Rattle.tpcc_storage.proofs.Owner.{same_there}
use Rattle.tpcc_storage.proofs.Part.{asks_key, no_row, no_row_there, part_found, part_owns, placed, rows_removed}
use Rattle.tpcc_storage.proofs.Put.{length_set, line_within, owners_kept, owns_filter, part_keyed, parts_kept, room_there, row_taken_out}
use Rattle.tpcc_storage.proofs.by_district.ByDistrict.remove.Goals as goal

pub returns-in_default-clause-rows : goal.returns-in_default-clause-rows
returns-in_default-clause-rows g c =
    let k = district_numbers c.owner_of.result in
    let parts = c.self.inside.parts.items in
    let numbers = g.T.KeyedRow.numbers c.args.key.now in
    let none = no_row g.T.KeyedRow.key c.self.inside.len c.self.inside.room parts c.self.invariant k (λ row. is_same_key (g.T.KeyedRow.key row) numbers) (asks_key g.T.KeyedRow.key numbers k c.owner_of.ensures)
    (placed (is_part k) c.as_slice.result.now parts c.place_of.result None c.as_slice.ensures.value c.place_of.ensures c.in_default.is) in
    sym (kept_all (λ row. is_same_key (g.T.KeyedRow.key row) numbers) c.args.self.now.rows (ap (λ (t : ByDistrictView g.row.T.Denot). list_any (λ row. is_same_key (g.T.KeyedRow.key row) numbers) t.rows) (sym c.self.view_is) ∙ none))

pub place_of-requires-2 : goal.place_of-requires-2
place_of-requires-2 g c =
    let k = district_numbers c.owner_of.result in
    let parts = c.self.inside.parts.items in
    let numbers = g.T.KeyedRow.numbers c.args.key.now in
    let at = placed (is_part k) c.as_slice.result.now parts c.place_of.result (Some c.in-Some.place) c.as_slice.ensures.value c.place_of.ensures c.in-Some.is in
    record {
      keyed = part_keyed g.T.KeyedRow.key (is_part k) parts c.index.result.now (ap (λ (t : ByDistrictView g.row.T.Denot). is_ascending g.T.KeyedRow.key t.rows) c.self.view_is ∙ c.requires.keyed)
          (part_found g.T.KeyedRow.key c.self.inside.len c.self.inside.room parts c.self.invariant k c.in-Some.place c.index.result.now at c.index.ensures);
    }

pub returns-in_default-place_of-clause-rows : goal.returns-in_default-place_of-clause-rows
returns-in_default-place_of-clause-rows g c =
    let k = district_numbers c.owner_of.result in
    let parts = c.self.inside.parts.items in
    let numbers = g.T.KeyedRow.numbers c.args.key.now in
    let at = placed (is_part k) c.as_slice.result.now parts c.place_of.result (Some c.in-Some.place) c.as_slice.ensures.value c.place_of.ensures c.in-Some.is in
    let none = no_row_there g.T.KeyedRow.key c.self.inside.len c.self.inside.room parts c.self.invariant k c.in-Some.place c.index.result.now at c.index.ensures (λ row. is_same_key (g.T.KeyedRow.key row) numbers) (asks_key g.T.KeyedRow.key numbers k c.owner_of.ensures)
    (placed (λ row. is_same_key (g.T.KeyedRow.key row) numbers) c.index.result.now.rows.items c.index.result.now.rows.items c.place_of-2.result None refl c.place_of-2.ensures c.in_default-place_of.is) in
    sym (kept_all (λ row. is_same_key (g.T.KeyedRow.key row) numbers) c.args.self.now.rows (ap (λ (t : ByDistrictView g.row.T.Denot). list_any (λ row. is_same_key (g.T.KeyedRow.key row) numbers) t.rows) (sym c.self.view_is) ∙ none))

pub overflow_sub-self : goal.overflow_sub-self
overflow_sub-self g c =
    let k = district_numbers c.owner_of.result in
    let parts = c.self.inside.parts.items in
    let numbers = g.T.KeyedRow.numbers c.args.key.now in
    let at = placed (is_part k) c.as_slice.result.now parts c.place_of.result (Some c.in-Some.place) c.as_slice.ensures.value c.place_of.ensures c.in-Some.is in
    let same = same_there (is_part k) parts c.in-Some.place c.index.result.now c.index_mut.result.now at c.index.ensures c.index_mut.ensures.value in
    let line = placed (λ row. is_same_key (g.T.KeyedRow.key row) numbers) c.index.result.now.rows.items c.index_mut.result.now.rows.items c.place_of-2.result (Some c.in-Some-place_of.line) (ap (λ (p : DistrictRows g.row.T.Denot). p.rows.items) same) c.place_of-2.ensures c.in-Some-place_of.is in
    let within = line_within (is_part k) parts c.in-Some.place at in
    let shorter : length c.take_out.new.self.rows.items + 1 ≡ length c.index_mut.result.now.rows.items = ap (λ rows. length rows + 1) c.take_out.ensures.rows ∙ length-remove c.index_mut.result.now.rows.items c.in-Some-place_of.line (line_within (λ row. is_same_key (g.T.KeyedRow.key row) numbers) c.index_mut.result.now.rows.items c.in-Some-place_of.line line) in
    let all = length_set parts c.in-Some.place c.index_mut.result.now c.take_out.new.self within c.index_mut.ensures.value in
    omega (arith, shorter, all, c.self.invariant.counted)

pub invariant_of-self : goal.invariant_of-self
invariant_of-self g c =
    let k = district_numbers c.owner_of.result in
    let parts = c.self.inside.parts.items in
    let numbers = g.T.KeyedRow.numbers c.args.key.now in
    let at = placed (is_part k) c.as_slice.result.now parts c.place_of.result (Some c.in-Some.place) c.as_slice.ensures.value c.place_of.ensures c.in-Some.is in
    let same = same_there (is_part k) parts c.in-Some.place c.index.result.now c.index_mut.result.now at c.index.ensures c.index_mut.ensures.value in
    let line = placed (λ row. is_same_key (g.T.KeyedRow.key row) numbers) c.index.result.now.rows.items c.index_mut.result.now.rows.items c.place_of-2.result (Some c.in-Some-place_of.line) (ap (λ (p : DistrictRows g.row.T.Denot). p.rows.items) same) c.place_of-2.ensures c.in-Some-place_of.is in
    let keyed = part_keyed g.T.KeyedRow.key (is_part k) parts c.index_mut.result.now (ap (λ (t : ByDistrictView g.row.T.Denot). is_ascending g.T.KeyedRow.key t.rows) c.self.view_is ∙ c.requires.keyed)
    (part_found g.T.KeyedRow.key c.self.inside.len c.self.inside.room parts c.self.invariant k c.in-Some.place c.index_mut.result.now at c.index_mut.ensures.value) in
    let within = line_within (is_part k) parts c.in-Some.place at in
    let shorter : length c.take_out.new.self.rows.items + 1 ≡ length c.index_mut.result.now.rows.items = ap (λ rows. length rows + 1) c.take_out.ensures.rows ∙ length-remove c.index_mut.result.now.rows.items c.in-Some-place_of.line (line_within (λ row. is_same_key (g.T.KeyedRow.key row) numbers) c.index_mut.result.now.rows.items c.in-Some-place_of.line line) in
    let all = length_set parts c.in-Some.place c.index_mut.result.now c.take_out.new.self within c.index_mut.ensures.value in
    let own = part_owns g.T.KeyedRow.key c.self.inside.len c.self.inside.room parts c.self.invariant k c.in-Some.place c.index_mut.result.now at c.index_mut.ensures.value in
    let room : HasRoom c.self.inside.room c.index_mut.result.now = room_there c.self.inside.room parts c.in-Some.place c.index_mut.result.now c.self.invariant.roomy within c.index_mut.ensures.value in
    parts_kept g.T.KeyedRow.key c.self.inside.len c.self.inside.room parts c.self.invariant c.in-Some.place c.index_mut.result.now c.take_out.new.self c.index_mut.ensures.value c.take_out.ensures.owner
    (c.self.inside.len - 1) c.self.inside.room (omega arith) (omega (arith, c.self.invariant.bound)) (omega (arith, shorter, all, c.self.invariant.counted))
    (owns_filter g.T.KeyedRow.key c.index_mut.result.now c.take_out.new.self c.take_out.ensures.owner own (λ row. not (is_same_key (g.T.KeyedRow.key row) numbers))
    (c.take_out.ensures.rows ∙ row_taken_out g.T.KeyedRow.key numbers c.index_mut.result.now.rows.items c.in-Some-place_of.line keyed line))
    (omega (arith, shorter, room, c.take_out.ensures.capacity))

pub returns-clause-rows : goal.returns-clause-rows
returns-clause-rows g c =
    let k = district_numbers c.owner_of.result in
    let parts = c.self.inside.parts.items in
    let numbers = g.T.KeyedRow.numbers c.args.key.now in
    let at = placed (is_part k) c.as_slice.result.now parts c.place_of.result (Some c.in-Some.place) c.as_slice.ensures.value c.place_of.ensures c.in-Some.is in
    let same = same_there (is_part k) parts c.in-Some.place c.index.result.now c.index_mut.result.now at c.index.ensures c.index_mut.ensures.value in
    let line = placed (λ row. is_same_key (g.T.KeyedRow.key row) numbers) c.index.result.now.rows.items c.index_mut.result.now.rows.items c.place_of-2.result (Some c.in-Some-place_of.line) (ap (λ (p : DistrictRows g.row.T.Denot). p.rows.items) same) c.place_of-2.ensures c.in-Some-place_of.is in
    let keyed = part_keyed g.T.KeyedRow.key (is_part k) parts c.index_mut.result.now (ap (λ (t : ByDistrictView g.row.T.Denot). is_ascending g.T.KeyedRow.key t.rows) c.self.view_is ∙ c.requires.keyed)
    (part_found g.T.KeyedRow.key c.self.inside.len c.self.inside.room parts c.self.invariant k c.in-Some.place c.index_mut.result.now at c.index_mut.ensures.value) in
    rows_removed g.T.KeyedRow.key c.self.inside.len c.self.inside.room parts c.self.invariant k c.in-Some.place c.index_mut.result.now at c.index_mut.ensures.value c.take_out.new.self (λ row. is_same_key (g.T.KeyedRow.key row) numbers) (asks_key g.T.KeyedRow.key numbers k c.owner_of.ensures)
    (c.take_out.ensures.rows ∙ row_taken_out g.T.KeyedRow.key numbers c.index_mut.result.now.rows.items c.in-Some-place_of.line keyed line)
    ∙ ap (λ (t : ByDistrictView g.row.T.Denot). filter (λ row. not (is_same_key (g.T.KeyedRow.key row) numbers)) t.rows) c.self.view_is

pub returns-clause-owners : goal.returns-clause-owners
returns-clause-owners g c =
    owners_kept g.T.KeyedRow.key c.self.inside.len c.self.inside.room c.self.inside.parts.items c.self.invariant c.in-Some.place c.index_mut.result.now c.take_out.new.self c.index_mut.ensures.value c.take_out.ensures.owner
    ∙ ap (λ (t : ByDistrictView g.row.T.Denot). t.owners) c.self.view_is

pub index-requires : goal.index-requires
index-requires g c = omega (arith, c.as_slice.ensures.len, line_within (is_part (district_numbers c.owner_of.result)) c.as_slice.result.now c.in-Some.place (sym c.place_of.ensures ∙ c.in-Some.is))

pub index_mut-requires : goal.index_mut-requires
index_mut-requires g c = omega (arith, c.as_slice.ensures.len, line_within (is_part (district_numbers c.owner_of.result)) c.as_slice.result.now c.in-Some.place (sym c.place_of.ensures ∙ c.in-Some.is))

pub take_out-requires : goal.take_out-requires
take_out-requires g c =
    let k = district_numbers c.owner_of.result in
    let parts = c.self.inside.parts.items in
    let numbers = g.T.KeyedRow.numbers c.args.key.now in
    let at = placed (is_part k) c.as_slice.result.now parts c.place_of.result (Some c.in-Some.place) c.as_slice.ensures.value c.place_of.ensures c.in-Some.is in
    let same = same_there (is_part k) parts c.in-Some.place c.index.result.now c.index_mut.result.now at c.index.ensures c.index_mut.ensures.value in
    line_within (λ row. is_same_key (g.T.KeyedRow.key row) numbers) c.index_mut.result.now.rows.items c.in-Some-place_of.line
    (placed (λ row. is_same_key (g.T.KeyedRow.key row) numbers) c.index.result.now.rows.items c.index_mut.result.now.rows.items c.place_of-2.result (Some c.in-Some-place_of.line) (ap (λ (p : DistrictRows g.row.T.Denot). p.rows.items) same) c.place_of-2.ensures c.in-Some-place_of.is)

pub returns-clause-room : goal.returns-clause-room
returns-clause-room g c = ap (λ (t : ByDistrictView g.row.T.Denot). t.room) c.self.view_is
