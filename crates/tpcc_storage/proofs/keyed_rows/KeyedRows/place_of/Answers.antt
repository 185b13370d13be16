use Rattle.std.proofs.Common.{◌∙◌, ap}
use Rattle.std.specs.Prelude.{position}
use Rattle.tpcc_storage.specs.Searches.{is_same_key}
use Rattle.tpcc_storage.specs.KeyedRows.{RowsView}
use Rattle.tpcc_storage.proofs.UnderKeys.{same_place}
use Rattle.tpcc_storage.proofs.keyed_rows.KeyedRows.place_of.Goals as goal

pub returns-in-None : goal.returns-in-None
returns-in-None g c =
    c.get_index_of.ensures.index
    ∙ same_place g.T.KeyedRow.key g.T.KeyedRow.numbers (g.T.Key.PartialEq.eq c.args.key.now) (g.T.KeyedRow.numbers c.args.key.now) (g.met.T.MapRow.same_keys c.args.key.now) c.self.inside.rows.entries c.self.invariant
    ∙ ap (λ (t : RowsView g.row.T.Denot). position (λ row. is_same_key (g.T.KeyedRow.key row) (g.T.KeyedRow.numbers c.args.key.now)) t.items) c.self.view_is
