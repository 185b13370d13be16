use Rattle.std.proofs.Common.{◌∙◌, sym}
use Rattle.tpcc_storage.proofs.Halves.{some_at, guessed_there}
use Rattle.tpcc_storage.proofs.search.try_likely_place.Goals as goal

pub returns-then-has_key : goal.returns-then-has_key
returns-then-has_key g c =
    guessed_there g.T.KeyedRow.key (g.T.KeyedRow.numbers c.args.key.now) c.args.rows.now c.likely_place-place.result c.in_ok-row.row.now c.requires.keyed (some_at c.args.rows.now c.likely_place-place.result c.in_ok-row.row.now c.in_ok-row.ensures.lookup.0 c.in_ok-row.ensures.lookup.1) (sym c.has_key.ensures ∙ c.if-has_key.true)
