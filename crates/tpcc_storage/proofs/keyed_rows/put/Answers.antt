use Rattle.std.proofs.Common.{◌≡◌, ◌∙◌, ap, None}
use Rattle.std.specs.Map.{values_of}
use Rattle.indexmap.specs.IndexMap.{get}
use Rattle.tpcc_storage.specs.Searches.{is_same_key}
use Rattle.tpcc_storage.proofs.Entered.{inserted_entry}
use Rattle.tpcc_storage.proofs.UnderKeys.{same_row, under_inserted, values_inserted}
use Rattle.tpcc_storage.proofs.keyed_rows.put.Goals as goal

pub returns-in-Ok-clause-rows : goal.returns-in-Ok-clause-rows
returns-in-Ok-clause-rows g c =
    let entries = c.args.rows.now.entries in
    let none : get g.T.Key.PartialEq.eq c.args.rows.now c.key_of.result ≡ None = same_row g.T.KeyedRow.key g.T.KeyedRow.numbers (g.T.Key.PartialEq.eq c.key_of.result) (g.T.KeyedRow.key c.args.row) (λ k. g.met.T.MapRow.same_keys c.key_of.result k ∙ ap (is_same_key (g.T.KeyedRow.numbers k)) c.key_of.ensures) entries c.requires.kept ∙ c.requires.fresh in
    ap values_of (c.in-Ok.ensures.entries ∙ inserted_entry g.T.Key.PartialEq.eq c.args.rows.now c.key_of.result c.args.row c.args.place c.in-Ok.field-0.0 none c.requires.within c.in-Ok.ensures.index) ∙ values_inserted entries c.args.place c.key_of.result c.args.row

pub returns-in-Ok-clause-kept : goal.returns-in-Ok-clause-kept
returns-in-Ok-clause-kept g c =
    let entries = c.args.rows.now.entries in
    let none : get g.T.Key.PartialEq.eq c.args.rows.now c.key_of.result ≡ None = same_row g.T.KeyedRow.key g.T.KeyedRow.numbers (g.T.Key.PartialEq.eq c.key_of.result) (g.T.KeyedRow.key c.args.row) (λ k. g.met.T.MapRow.same_keys c.key_of.result k ∙ ap (is_same_key (g.T.KeyedRow.numbers k)) c.key_of.ensures) entries c.requires.kept ∙ c.requires.fresh in
    rw (c.in-Ok.ensures.entries ∙ inserted_entry g.T.Key.PartialEq.eq c.args.rows.now c.key_of.result c.args.row c.args.place c.in-Ok.field-0.0 none c.requires.within c.in-Ok.ensures.index) (under_inserted g.T.KeyedRow.key g.T.KeyedRow.numbers entries c.args.place c.key_of.result c.args.row c.key_of.ensures c.requires.kept)
