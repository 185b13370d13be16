use Rattle.std.proofs.Common.{◌∙◌, sym, ap, arith}
use Rattle.std.specs.Prelude.{find, position, is_some}
use Rattle.std.specs.Map.{values_of}
use Rattle.tpcc_rows.specs.Lists.{is_ascending, updated}
use Rattle.tpcc_laws.proofs.List.{one_of_key}
use Rattle.tpcc_storage.specs.Searches.{is_same_key}
use Rattle.tpcc_storage.specs.KeyedRows.{RowsView}
use Rattle.tpcc_storage.proofs.Change.{found_passes}
use Rattle.tpcc_storage.proofs.Place.{found_row, place_within, unwritten}
use Rattle.tpcc_storage.proofs.Halves.{at_place}
use Rattle.tpcc_storage.proofs.UnderKeys.{keys_apart, length_values, under_set, values_set}
use Rattle.tpcc_storage.proofs.keyed_rows.KeyedRows.change.Goals as goal

pub apply-requires : goal.apply-requires
apply-requires g c =
    let passes = λ (row : g.row.T.Denot). is_same_key (g.T.KeyedRow.key row) (g.T.KeyedRow.numbers c.args.key.now) in
    let rows = values_of c.self.inside.rows.entries in
    let row = c.index_mut.result.now in
    let there = ap (λ (t : RowsView g.row.T.Denot). position passes t.items) c.self.view_is ∙ sym c.place_of.ensures ∙ c.in-Some.is in
    let found = found_row passes rows c.in-Some.place row there (at_place row rows c.in-Some.place row c.index_mut.ensures.value).1 in
    c.requires.fits row (sym (ap (λ (t : RowsView g.row.T.Denot). find passes t.items) c.self.view_is) ∙ found)

pub invariant_of-self : goal.invariant_of-self
invariant_of-self g c =
    under_set g.T.KeyedRow.key g.T.KeyedRow.numbers c.self.inside.rows.entries c.in-Some.place c.index_mut.result.now c.apply.new.row c.index_mut.ensures.value (ap g.T.KeyedRow.key c.apply.ensures ∙ g.met.C.RowChange.keeps_key c.args.change.now c.index_mut.result.now) c.self.invariant

pub returns-in-Some : goal.returns-in-Some
returns-in-Some g c =
    let passes = λ (row : g.row.T.Denot). is_same_key (g.T.KeyedRow.key row) (g.T.KeyedRow.numbers c.args.key.now) in
    let rows = values_of c.self.inside.rows.entries in
    let row = c.index_mut.result.now in
    let there = ap (λ (t : RowsView g.row.T.Denot). position passes t.items) c.self.view_is ∙ sym c.place_of.ensures ∙ c.in-Some.is in
    let found = found_row passes rows c.in-Some.place row there (at_place row rows c.in-Some.place row c.index_mut.ensures.value).1 in
    let keyed = ap (λ (t : RowsView g.row.T.Denot). is_ascending g.T.KeyedRow.key t.items) c.self.view_is ∙ c.requires.keyed in
    let one = one_of_key g.T.KeyedRow.key passes (λ a b. keys_apart (g.T.KeyedRow.key a) (g.T.KeyedRow.key b) (g.T.KeyedRow.numbers c.args.key.now)) rows keyed (ap is_some found) in
    values_set passes (g.C.RowChange.changed c.args.change.now) c.self.inside.rows.entries c.in-Some.place row c.apply.new.row c.index_mut.ensures.value (found_passes passes rows row found) one c.apply.ensures
    ∙ ap (λ (t : RowsView g.row.T.Denot). updated passes (g.C.RowChange.changed c.args.change.now) t.items) c.self.view_is

pub returns-in_default : goal.returns-in_default
returns-in_default g c =
    unwritten (λ row. is_same_key (g.T.KeyedRow.key row) (g.T.KeyedRow.numbers c.args.key.now)) (g.C.RowChange.changed c.args.change.now) c.args.self.now.items (sym c.place_of.ensures ∙ c.in_default.is)

pub index_mut-requires : goal.index_mut-requires
index_mut-requires g c =
    let passes = λ (row : g.row.T.Denot). is_same_key (g.T.KeyedRow.key row) (g.T.KeyedRow.numbers c.args.key.now) in
    let there = ap (λ (t : RowsView g.row.T.Denot). position passes t.items) c.self.view_is ∙ sym c.place_of.ensures ∙ c.in-Some.is in
    omega (arith, length_values c.self.inside.rows.entries, place_within passes (values_of c.self.inside.rows.entries) c.in-Some.place there)
