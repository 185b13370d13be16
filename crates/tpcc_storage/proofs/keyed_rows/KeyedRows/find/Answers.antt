use Rattle.std.proofs.Common.{◌∙◌, sym, ap, arith}
use Rattle.std.specs.Prelude.{find, position}
use Rattle.std.specs.Map.{values_of}
use Rattle.std.specs.Option.{option_copied}
use Rattle.tpcc_storage.specs.Searches.{is_same_key}
use Rattle.tpcc_storage.specs.KeyedRows.{RowsView}
use Rattle.tpcc_storage.proofs.Place.{found_row, place_within}
use Rattle.tpcc_storage.proofs.Halves.{at_place, unfound}
use Rattle.tpcc_storage.proofs.UnderKeys.{length_values}
use Rattle.tpcc_storage.proofs.keyed_rows.KeyedRows.find.Goals as goal

pub returns-in_err-place : goal.returns-in_err-place
returns-in_err-place g c =
    ap option_copied c.from_residual.ensures ∙ sym (unfound (λ row. is_same_key (g.T.KeyedRow.key row) (g.T.KeyedRow.numbers c.args.key.now)) c.args.self.now.items (sym c.place_of.ensures ∙ c.in_err-place.was))

pub returns : goal.returns
returns g c =
    let passes = λ (row : g.row.T.Denot). is_same_key (g.T.KeyedRow.key row) (g.T.KeyedRow.numbers c.args.key.now) in
    let rows = values_of c.self.inside.rows.entries in
    let there = ap (λ (t : RowsView g.row.T.Denot). position passes t.items) c.self.view_is ∙ sym c.place_of.ensures ∙ c.in_ok-place.was in
    let row = c.index.result.now in
    sym (sym (ap (λ (t : RowsView g.row.T.Denot). find passes t.items) c.self.view_is) ∙ found_row passes rows c.in_ok-place.place row there (at_place row rows c.in_ok-place.place row c.index.ensures).1)

pub index-requires : goal.index-requires
index-requires g c =
    let passes = λ (row : g.row.T.Denot). is_same_key (g.T.KeyedRow.key row) (g.T.KeyedRow.numbers c.args.key.now) in
    let there = ap (λ (t : RowsView g.row.T.Denot). position passes t.items) c.self.view_is ∙ sym c.place_of.ensures ∙ c.in_ok-place.was in
    omega (arith, length_values c.self.inside.rows.entries, place_within passes (values_of c.self.inside.rows.entries) c.in_ok-place.place there)
