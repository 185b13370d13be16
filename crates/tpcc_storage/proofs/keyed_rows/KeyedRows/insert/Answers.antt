use Rattle.std.proofs.Common.{◌∙◌, ap, length, arith, insert, not, Result, Ok, Err, OnOk}
use Rattle.std.specs.List.{prefix_len}
use Rattle.std.proofs.lemmas.List.Sums.{prefix_len-le-length}
use Rattle.tpcc_rows.specs.Lists.{by_key}
use Rattle.tpcc_laws.proofs.Body.{insert_is_inserted}
use Rattle.tpcc_storage.specs.KeyedRows.{RowsView}
use Rattle.tpcc_storage.proofs.UnderKeys.{length_values}
use Rattle.tpcc_storage.proofs.keyed_rows.KeyedRows.insert.Goals as goal

then_ok : {X E : Type 0} (r : Result X E) {P Q : Type 0} → (P → Q) → OnOk r P → OnOk r Q
then_ok (Ok x) f h = f h
then_ok (Err e) f h = tt

pub put-requires-clause-within : goal.put-requires-clause-within
put-requires-clause-within g c =
    let place = c.place_for-place.ensures ∙ ap (prefix_len (λ row. not (by_key g.T.KeyedRow.key c.args.row row))) c.as_slice.ensures in
    let all = ap (λ (t : RowsView g.row.T.Denot). length t.items) c.self.view_is in
    omega (arith, place, all, prefix_len-le-length (λ row. not (by_key g.T.KeyedRow.key c.args.row row)) c.args.self.now.items, length_values c.self.inside.rows.entries)

pub returns-clause-inserted : goal.returns-clause-inserted
returns-clause-inserted g c =
    let place = c.place_for-place.ensures ∙ ap (prefix_len (λ row. not (by_key g.T.KeyedRow.key c.args.row row))) c.as_slice.ensures in
    let put = ap (λ (t : RowsView g.row.T.Denot). insert t.items c.place_for-place.result c.args.row) c.self.view_is in
    then_ok c.put.result (λ rows. rows ∙ put ∙ ap (λ i. insert c.args.self.now.items i c.args.row) place ∙ insert_is_inserted (by_key g.T.KeyedRow.key) c.args.row c.args.self.now.items) c.put.ensures.rows
