use Rattle.std.proofs.Common.{◌∙◌, ap, sym, take, ◌++◌, ◌∷◌, [], append_assoc, arith}
use Rattle.std.specs.List.{list_all}
use Rattle.std.proofs.lemmas.List.{take_all, take_more}
use Rattle.indexmap.specs.IndexMap.{values}
use Rattle.tpcc_rows.specs.Lists.{by_key}
use Rattle.tpcc_storage.proofs.UnderKeys.{front_before}
use Rattle.tpcc_storage.proofs.keyed_rows.push_all.Goals as goal

pub push-requires-clause-last : goal.push-requires-clause-last
push-requires-clause-last g c =
    let place = c.loop-row.row-index in
    let row = c.row-item.result in
    ap (list_all (λ earlier. by_key g.T.KeyedRow.key earlier row)) c.loop-row.invariant.rows
    ∙ ap (λ later. list_all (λ earlier. by_key g.T.KeyedRow.key earlier later) (values c.args.rows.now ++ take place c.args.more.now)) c.row-item.is
    ∙ front_before g.T.KeyedRow.key (values c.args.rows.now) c.args.more.now place row c.requires.keyed c.loop-row-test.true

pub loop-row-preserved : goal.loop-row-preserved
loop-row-preserved g c = record {
  rows =
      c.in_ok-push.ensures.rows
      ∙ (λ i. c.loop-row.invariant.rows i ++ c.row-item.is i ∷ [])
      ∙ append_assoc (values c.args.rows.now) (take c.loop-row.row-index c.args.more.now) _
      ∙ ap (λ rows. values c.args.rows.now ++ rows) (sym (take_more c.args.more.now c.loop-row.row-index c.row-item.result c.loop-row-test.true));
  kept = c.in_ok-push.ensures.kept;
}

pub returns-clause-rows : goal.returns-clause-rows
returns-clause-rows g c = c.loop-row.invariant.rows ∙ ap (λ rows. values c.args.rows.now ++ rows) (take_all c.loop-row.row-index c.args.more.now (omega (arith, c.loop-row-test.false)))
