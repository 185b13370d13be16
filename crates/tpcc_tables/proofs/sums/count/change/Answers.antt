use Rattle.std.proofs.Common.{◌∙◌, sym, ap, set}
use Rattle.std.specs.Prelude.{position}
use Rattle.tpcc_storage.specs.Searches.{is_same_key}
use Rattle.tpcc_storage.proofs.Place.{found_row}
use Rattle.tpcc_tables.proofs.Sum.{entry_written, entry_missing}
use Rattle.tpcc_tables.proofs.sums.count.change.Goals as goal

pub apply-requires : goal.apply-requires
apply-requires g c =
    let passes = λ (entry : g.row.T.Denot). is_same_key (g.T.KeyedRow.key entry) (g.T.KeyedRow.numbers c.args.key.now) in
    let there = ap (position passes) (sym c.as_slice.ensures.value) ∙ sym c.place_of.ensures ∙ c.in-Some.is in
    c.requires.fits c.index_mut.result.now (found_row passes c.args.entries.now.items c.in-Some.place c.index_mut.result.now there c.index_mut.ensures.value)

pub returns-in-Some : goal.returns-in-Some
returns-in-Some g c =
    ap (λ entry. set c.args.entries.now.items c.in-Some.place entry) c.apply.ensures
    ∙ entry_written g.T.KeyedRow.key (g.T.KeyedRow.numbers c.args.key.now) (g.C.RowChange.changed c.args.change.now) c.args.entries.now.items c.as_slice.result.now c.place_of.result c.in-Some.place c.index_mut.result.now
    c.requires.keyed c.as_slice.ensures.value c.place_of.ensures c.in-Some.is c.index_mut.ensures.value

pub returns-in_default : goal.returns-in_default
returns-in_default g c =
    entry_missing g.T.KeyedRow.key (g.T.KeyedRow.numbers c.args.key.now) (g.C.RowChange.changed c.args.change.now) c.args.entries.now.items c.as_slice.result.now c.place_of.result c.as_slice.ensures.value c.place_of.ensures c.in_default.is
