use Rattle.std.proofs.Common.{◌≡◌, ◌∙◌, ap, None}
use Rattle.std.specs.Map.{values_of}
use Rattle.indexmap.specs.IndexMap.{get}
use Rattle.indexmap.proofs.CallerLemmas.{insert_entry-new}
use Rattle.tpcc_storage.specs.Searches.{is_same_key}
use Rattle.tpcc_storage.proofs.UnderKeys.{none_has_key, same_row, under_pushed, values_pushed}
use Rattle.tpcc_storage.proofs.keyed_rows.push.Goals as goal

pub returns-in-Ok-clause-rows : goal.returns-in-Ok-clause-rows
returns-in-Ok-clause-rows g c =
    let entries = c.args.rows.now.entries in
    let none : get g.T.Key.PartialEq.eq c.args.rows.now c.key_of.result ≡ None = same_row g.T.KeyedRow.key g.T.KeyedRow.numbers (g.T.Key.PartialEq.eq c.key_of.result) (g.T.KeyedRow.key c.args.row) (λ k. g.met.T.MapRow.same_keys c.key_of.result k ∙ ap (is_same_key (g.T.KeyedRow.numbers k)) c.key_of.ensures) entries c.requires.kept ∙ none_has_key g.T.KeyedRow.key c.args.row (values_of entries) c.requires.last in
    ap values_of (c.in-Ok.ensures.entries ∙ insert_entry-new g.T.Key.PartialEq.eq c.args.rows.now c.key_of.result c.args.row none) ∙ values_pushed entries c.key_of.result c.args.row

pub returns-in-Ok-clause-kept : goal.returns-in-Ok-clause-kept
returns-in-Ok-clause-kept g c =
    let entries = c.args.rows.now.entries in
    let none : get g.T.Key.PartialEq.eq c.args.rows.now c.key_of.result ≡ None = same_row g.T.KeyedRow.key g.T.KeyedRow.numbers (g.T.Key.PartialEq.eq c.key_of.result) (g.T.KeyedRow.key c.args.row) (λ k. g.met.T.MapRow.same_keys c.key_of.result k ∙ ap (is_same_key (g.T.KeyedRow.numbers k)) c.key_of.ensures) entries c.requires.kept ∙ none_has_key g.T.KeyedRow.key c.args.row (values_of entries) c.requires.last in
    rw (c.in-Ok.ensures.entries ∙ insert_entry-new g.T.Key.PartialEq.eq c.args.rows.now c.key_of.result c.args.row none) (under_pushed g.T.KeyedRow.key g.T.KeyedRow.numbers entries c.key_of.result c.args.row c.key_of.ensures c.requires.kept)
