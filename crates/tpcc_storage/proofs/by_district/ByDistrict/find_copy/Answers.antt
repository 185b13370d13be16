use Rattle.std.specs.Prelude.{Bool}
use Rattle.std.proofs.Common.{◌∙◌, ap, sym, find}
use Rattle.std.specs.Option.{option_copied}
use Rattle.tpcc_rows.specs.Lists.{is_ascending}
use Rattle.tpcc_storage.specs.Searches.{is_same_key}
use Rattle.tpcc_storage.specs.ByDistrict.{is_of}
use Rattle.tpcc_storage.specs.Internal.ByDistrict.{rows_or_none}
use Rattle.tpcc_storage.proofs.Place.{got_there}
use Rattle.tpcc_storage.proofs.Halves.{unfound}
use Rattle.tpcc_storage.proofs.Part.{asks_key}
use Rattle.tpcc_storage.proofs.Line.{ascending_chosen, found_within, asks_of}
use Rattle.tpcc_storage.proofs.by_district.ByDistrict.find_copy.Goals as goal

pub returns-in_err-part : goal.returns-in_err-part
unfolding rows_or_none
returns-in_err-part g c =
    let numbers = g.T.KeyedRow.numbers c.args.key.now in
    let test : g.row.T.Denot → Bool = λ row. is_same_key (g.T.KeyedRow.key row) numbers in
    c.from_residual.ensures
    ∙ ap (λ found. find test (rows_or_none (option_copied found))) (sym c.in_err-part.was)
    ∙ ap (find test) c.part_of.ensures
    ∙ found_within test (λ row. is_of c.owner_of.result (g.T.KeyedRow.key row)) (asks_of g.T.KeyedRow.key c.owner_of.result test (asks_key g.T.KeyedRow.key numbers _ c.owner_of.ensures)) c.args.self.now.rows

pub place_of-requires : goal.place_of-requires
unfolding rows_or_none
place_of-requires g c = record {
  keyed = ap (λ found. is_ascending g.T.KeyedRow.key (rows_or_none (option_copied found))) (sym c.in_ok-part.was)
      ∙ ap (is_ascending g.T.KeyedRow.key) c.part_of.ensures
      ∙ ascending_chosen g.T.KeyedRow.key (λ row. is_of c.owner_of.result (g.T.KeyedRow.key row)) c.args.self.now.rows c.requires.keyed;
}

pub returns-in_err-place_of : goal.returns-in_err-place_of
unfolding rows_or_none
returns-in_err-place_of g c =
    let numbers = g.T.KeyedRow.numbers c.args.key.now in
    let test : g.row.T.Denot → Bool = λ row. is_same_key (g.T.KeyedRow.key row) numbers in
    c.from_residual-in_err-place_of.ensures
    ∙ sym (unfound test c.in_ok-part.part.now.rows.items (sym c.place_of.ensures ∙ c.in_err-place_of.was))
    ∙ ap (λ found. find test (rows_or_none (option_copied found))) (sym c.in_ok-part.was)
    ∙ ap (find test) c.part_of.ensures
    ∙ found_within test (λ row. is_of c.owner_of.result (g.T.KeyedRow.key row)) (asks_of g.T.KeyedRow.key c.owner_of.result test (asks_key g.T.KeyedRow.key numbers _ c.owner_of.ensures)) c.args.self.now.rows

pub returns : goal.returns
unfolding rows_or_none
returns g c =
    let numbers = g.T.KeyedRow.numbers c.args.key.now in
    let test : g.row.T.Denot → Bool = λ row. is_same_key (g.T.KeyedRow.key row) numbers in
    c.get.ensures
    ∙ got_there test c.in_ok-part.part.now.rows.items _ (sym c.place_of.ensures ∙ c.in_ok-place_of.was)
    ∙ ap (λ found. find test (rows_or_none (option_copied found))) (sym c.in_ok-part.was)
    ∙ ap (find test) c.part_of.ensures
    ∙ found_within test (λ row. is_of c.owner_of.result (g.T.KeyedRow.key row)) (asks_of g.T.KeyedRow.key c.owner_of.result test (asks_key g.T.KeyedRow.key numbers _ c.owner_of.ensures)) c.args.self.now.rows
