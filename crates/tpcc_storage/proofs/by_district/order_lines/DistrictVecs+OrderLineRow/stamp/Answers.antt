use Rattle.std.proofs.Common.{◌≡◌, ◌∙◌, ◌∷◌, [], ap, sym, refl, arith, length, List, ℕ, Some, None}
use Rattle.std.specs.List.{list_any}
use Rattle.tpcc_rows.specs.declared.tables.rows.OrderLineRow.{OrderLineRow}
use Rattle.tpcc_rows.specs.Lists.{is_ascending, updated}
use Rattle.tpcc_rows.specs.Tables.{is_line_of, order_line_key}
use Rattle.tpcc_laws.proofs.List.{updated_absent}
use Rattle.tpcc_storage.specs.ByDistrict.{ByDistrictView}
use Rattle.tpcc_storage.specs.Internal.DistrictWords.{is_part, HasRoom}
use Rattle.tpcc_storage.proofs.Line.{length_updated, line_asks, owns_updated}
use Rattle.tpcc_storage.proofs.Part.{no_row, part_found, part_owns, placed, rows_updated}
use Rattle.tpcc_storage.proofs.Put.{length_set, line_within, owners_kept, part_keyed, parts_kept, room_there}
use Rattle.tpcc_storage.proofs.by_district.order_lines.DistrictVecs+OrderLineRow.stamp.Goals as goal

pub returns-in_default-clause-rows : goal.returns-in_default-clause-rows
returns-in_default-clause-rows c =
    let k : List ℕ = c.args.warehouse ∷ c.args.district ∷ [] in
    let parts = c.self.inside.parts.items in
    let q = is_line_of c.args.warehouse c.args.district c.args.order in
    let none = no_row order_line_key c.self.inside.len c.self.inside.room parts c.self.invariant k (is_line_of c.args.warehouse c.args.district c.args.order) (line_asks c.args.warehouse c.args.district c.args.order)
    (placed (is_part k) c.as_slice.result.now parts c.place_of.result None c.as_slice.ensures.value c.place_of.ensures c.in_default.is) in
    sym (updated_absent (is_line_of c.args.warehouse c.args.district c.args.order) (λ (l : OrderLineRow). record l { delivered = Some c.args.moment }) c.args.self.now.rows
    (ap (λ (t : ByDistrictView OrderLineRow). list_any (is_line_of c.args.warehouse c.args.district c.args.order) t.rows) (sym c.self.view_is) ∙ none))

pub stamp-requires : goal.stamp-requires
stamp-requires c =
    let k : List ℕ = c.args.warehouse ∷ c.args.district ∷ [] in
    let parts = c.self.inside.parts.items in
    let at = placed (is_part k) c.as_slice.result.now parts c.place_of.result (Some c.in-Some.place) c.as_slice.ensures.value c.place_of.ensures c.in-Some.is in
    record {
      keyed = part_keyed order_line_key (is_part k) parts c.index_mut.result.now (ap (λ (t : ByDistrictView OrderLineRow). is_ascending order_line_key t.rows) c.self.view_is ∙ c.requires.keyed)
          (part_found order_line_key c.self.inside.len c.self.inside.room parts c.self.invariant k c.in-Some.place c.index_mut.result.now at c.index_mut.ensures.value);
    }

pub invariant_of-self : goal.invariant_of-self
invariant_of-self c =
    let k : List ℕ = c.args.warehouse ∷ c.args.district ∷ [] in
    let parts = c.self.inside.parts.items in
    let at = placed (is_part k) c.as_slice.result.now parts c.place_of.result (Some c.in-Some.place) c.as_slice.ensures.value c.place_of.ensures c.in-Some.is in
    let within = line_within (is_part k) parts c.in-Some.place at in
    let own = part_owns order_line_key c.self.inside.len c.self.inside.room parts c.self.invariant k c.in-Some.place c.index_mut.result.now at c.index_mut.ensures.value in
    let change = λ (l : OrderLineRow). record l { delivered = Some c.args.moment } in
    let equal : length c.stamp.new.self.rows.items ≡ length c.index_mut.result.now.rows.items = ap length c.stamp.ensures.rows ∙ length_updated (is_line_of c.args.warehouse c.args.district c.args.order) change c.index_mut.result.now.rows.items in
    let all = length_set parts c.in-Some.place c.index_mut.result.now c.stamp.new.self within c.index_mut.ensures.value in
    let room : HasRoom c.self.inside.room c.index_mut.result.now = room_there c.self.inside.room parts c.in-Some.place c.index_mut.result.now c.self.invariant.roomy within c.index_mut.ensures.value in
    parts_kept order_line_key c.self.inside.len c.self.inside.room parts c.self.invariant c.in-Some.place c.index_mut.result.now c.stamp.new.self c.index_mut.ensures.value c.stamp.ensures.owner
    c.self.inside.len c.self.inside.room (omega arith) c.self.invariant.bound (omega (arith, equal, all, c.self.invariant.counted))
    (owns_updated order_line_key (is_line_of c.args.warehouse c.args.district c.args.order) change (λ l. refl) c.index_mut.result.now c.stamp.new.self c.stamp.ensures.owner own c.stamp.ensures.rows)
    (omega (arith, equal, room, c.stamp.ensures.capacity))

pub returns-clause-rows : goal.returns-clause-rows
returns-clause-rows c =
    let k : List ℕ = c.args.warehouse ∷ c.args.district ∷ [] in
    let parts = c.self.inside.parts.items in
    let at = placed (is_part k) c.as_slice.result.now parts c.place_of.result (Some c.in-Some.place) c.as_slice.ensures.value c.place_of.ensures c.in-Some.is in
    let change = λ (l : OrderLineRow). record l { delivered = Some c.args.moment } in
    rows_updated order_line_key c.self.inside.len c.self.inside.room parts c.self.invariant k c.in-Some.place c.index_mut.result.now at c.index_mut.ensures.value c.stamp.new.self (is_line_of c.args.warehouse c.args.district c.args.order) change (line_asks c.args.warehouse c.args.district c.args.order) c.stamp.ensures.rows
    ∙ ap (λ (t : ByDistrictView OrderLineRow). updated (is_line_of c.args.warehouse c.args.district c.args.order) change t.rows) c.self.view_is

pub returns-clause-owners : goal.returns-clause-owners
returns-clause-owners c =
    owners_kept order_line_key c.self.inside.len c.self.inside.room c.self.inside.parts.items c.self.invariant c.in-Some.place c.index_mut.result.now c.stamp.new.self c.index_mut.ensures.value c.stamp.ensures.owner
    ∙ ap (λ (t : ByDistrictView OrderLineRow). t.owners) c.self.view_is

pub index_mut-requires : goal.index_mut-requires
index_mut-requires c = omega (arith, c.as_slice.ensures.len, line_within (is_part (c.args.warehouse ∷ c.args.district ∷ [])) c.as_slice.result.now c.in-Some.place (sym c.place_of.ensures ∙ c.in-Some.is))
