use Rattle.std.proofs.Common.{◌∙◌, ◌++◌, ◌∷◌, [], ap, sym, arith, length, take}
use Rattle.std.proofs.lemmas.List.{append_assoc, length-append, length-take-le, take_more}
use Rattle.tpcc_storage.proofs.Halves.{at_place}
use Rattle.tpcc_storage.proofs.Range.{all_listed}
use Rattle.tpcc_storage.proofs.by_district.pending.list.Goals as goal

pub loop-place-preserved : goal.loop-place-preserved
loop-place-preserved c =
    let there = at_place c.unwrap.result c.args.range.now c.loop-place.place c.unwrap.result (sym c.get.ensures ∙ c.unwrap.ensures) in
    record {
      listed = c.push_reserved.ensures.items
          ∙ ap (λ rows. rows ++ c.unwrap.result ∷ []) c.loop-place.invariant.listed
          ∙ append_assoc c.args.listed.now.items (take c.loop-place.place c.args.range.now) (c.unwrap.result ∷ [])
          ∙ ap (λ rows. c.args.listed.now.items ++ rows) (sym (take_more c.args.range.now c.loop-place.place c.unwrap.result there.0 ∙ ap (λ row. take c.loop-place.place c.args.range.now ++ row ∷ []) (sym there.1)));
      capacity = omega (arith, c.push_reserved.ensures.capacity, c.loop-place.invariant.capacity);
    }

pub push_reserved-requires : goal.push_reserved-requires
push_reserved-requires c =
    let old = c.args.listed.now.items in
    let put = take c.loop-place.place c.args.range.now in
    omega (arith, c.loop-place.listed.ok, ap length c.loop-place.invariant.listed, length-append old put, length-take-le c.loop-place.place c.args.range.now (omega (arith, c.len-place-end.ensures.len)), ap length (c.requires.alone (omega (arith, c.len-place-end.ensures.len))), c.requires.room, c.loop-place.invariant.capacity, c.len-place-end.ensures.len)

pub returns-clause-listed : goal.returns-clause-listed
returns-clause-listed c =
    all_listed c.args.range.now c.args.listed.now.items c.loop-place.listed.items c.loop-place.place c.requires.alone (omega (arith, c.len-place-end.ensures.len)) c.loop-place.invariant.listed
