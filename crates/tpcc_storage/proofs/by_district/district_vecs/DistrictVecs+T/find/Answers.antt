use Rattle.std.specs.Prelude.{Bool}
use Rattle.std.proofs.Common.{◌∙◌, ap, find}
use Rattle.tpcc_rows.specs.Lists.{is_ascending}
use Rattle.tpcc_storage.specs.Searches.{is_same_key}
use Rattle.tpcc_storage.specs.ByDistrict.{is_of}
use Rattle.tpcc_storage.proofs.Part.{asks_key}
use Rattle.tpcc_storage.proofs.Line.{ascending_chosen, found_within, asks_of}
use Rattle.tpcc_storage.proofs.by_district.district_vecs.DistrictVecs+T.find.Goals as goal

pub find-requires : goal.find-requires
find-requires g c = record {
  keyed = ap (is_ascending g.T.KeyedRow.key) c.part.ensures ∙ ascending_chosen g.T.KeyedRow.key (λ row. is_of c.owner_of.result (g.T.KeyedRow.key row)) c.args.self.now.rows c.requires.keyed;
}

pub returns : goal.returns
returns g c =
    let numbers = g.T.KeyedRow.numbers c.args.key.now in
    let test : g.row.T.Denot → Bool = λ row. is_same_key (g.T.KeyedRow.key row) numbers in
    c.find.ensures
    ∙ ap (find test) c.part.ensures
    ∙ found_within test (λ row. is_of c.owner_of.result (g.T.KeyedRow.key row)) (asks_of g.T.KeyedRow.key c.owner_of.result test (asks_key g.T.KeyedRow.key numbers _ c.owner_of.ensures)) c.args.self.now.rows
