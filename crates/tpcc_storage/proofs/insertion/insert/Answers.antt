use Rattle.std.proofs.Common.{◌∙◌, ap, not, insert, arith}
use Rattle.std.specs.List.{prefix_len}
use Rattle.std.proofs.lemmas.List.Sums.{prefix_len-le-length}
use Rattle.tpcc_rows.specs.Lists.{by_key}
use Rattle.tpcc_laws.proofs.Body.{insert_is_inserted}
use Rattle.tpcc_storage.proofs.insertion.insert.Goals as goal

pub insert-requires : goal.insert-requires
insert-requires g c =
    let place = c.place_for-place.ensures ∙ ap (prefix_len (λ row. not (by_key g.T.KeyedRow.key c.args.added row))) c.as_slice.ensures.value in
    omega (arith, place, prefix_len-le-length (λ row. not (by_key g.T.KeyedRow.key c.args.added row)) c.args.rows.now.items)

pub returns-clause-inserted : goal.returns-clause-inserted
returns-clause-inserted g c =
    let place = c.place_for-place.ensures ∙ ap (prefix_len (λ row. not (by_key g.T.KeyedRow.key c.args.added row))) c.as_slice.ensures.value in
    c.in_ok-insert.ensures.items ∙ ap (λ i. insert c.args.rows.now.items i c.args.added) place ∙ insert_is_inserted (by_key g.T.KeyedRow.key) c.args.added c.args.rows.now.items
