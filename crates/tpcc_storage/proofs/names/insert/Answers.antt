use Rattle.std.proofs.Common.{◌∙◌, ap, not, insert, arith}
use Rattle.std.specs.List.{prefix_len}
use Rattle.std.proofs.lemmas.List.Sums.{prefix_len-le-length}
use Rattle.tpcc_laws.proofs.Body.{insert_is_inserted}
use Rattle.tpcc_storage.specs.Names.{name_before}
use Rattle.tpcc_storage.specs.Internal.Names.{is_in_order}
use Rattle.tpcc_storage.proofs.Order.{in_order-inserted}
use Rattle.tpcc_storage.proofs.Name.{name_order}
use Rattle.tpcc_storage.proofs.names.insert.Goals as goal

pub insert-requires : goal.insert-requires
insert-requires c =
    let place = c.place_for-place.ensures ∙ ap (prefix_len (λ name. not (name_before c.args.added name))) c.as_slice.ensures.value in
    omega (arith, place, prefix_len-le-length (λ name. not (name_before c.args.added name)) c.args.names.now.items)

pub returns-clause-inserted : goal.returns-clause-inserted
returns-clause-inserted c =
    let place = c.place_for-place.ensures ∙ ap (prefix_len (λ name. not (name_before c.args.added name))) c.as_slice.ensures.value in
    c.in_ok-insert.ensures.items ∙ ap (λ i. insert c.args.names.now.items i c.args.added) place ∙ insert_is_inserted name_before c.args.added c.args.names.now.items

pub returns-clause-order : goal.returns-clause-order
returns-clause-order c =
    let place = c.place_for-place.ensures ∙ ap (prefix_len (λ name. not (name_before c.args.added name))) c.as_slice.ensures.value in
    ap (is_in_order name_before) (c.in_ok-insert.ensures.items ∙ ap (λ i. insert c.args.names.now.items i c.args.added) place ∙ insert_is_inserted name_before c.args.added c.args.names.now.items)
    ∙ in_order-inserted name_before name_order c.args.added c.args.names.now.items c.requires.order
