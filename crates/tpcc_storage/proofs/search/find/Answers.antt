use Rattle.std.proofs.Common.{◌∙◌, sym, ap}
use Rattle.std.specs.Option.{option_copied}
use Rattle.tpcc_storage.specs.Searches.{is_same_key}
use Rattle.tpcc_storage.proofs.Place.{found_row}
use Rattle.tpcc_storage.proofs.Halves.{unfound}
use Rattle.tpcc_storage.proofs.search.find.Goals as goal

pub returns-in_err-place : goal.returns-in_err-place
returns-in_err-place g c =
    ap option_copied c.from_residual.ensures ∙ sym (unfound (λ row. is_same_key (g.T.KeyedRow.key row) (g.T.KeyedRow.numbers c.args.key.now)) c.args.rows.now (sym c.place_of.ensures ∙ c.in_err-place.was))

pub returns : goal.returns
returns g c =
    sym (found_row (λ row. is_same_key (g.T.KeyedRow.key row) (g.T.KeyedRow.numbers c.args.key.now)) c.args.rows.now c.in_ok-place.place c.index-rows-place.result (sym c.place_of.ensures ∙ c.in_ok-place.was) c.index-rows-place.is)
