use Rattle.std.proofs.Common.{rules, arith, sym, refl, ap, ◌≡◌, ◌∙◌}
use mathlib.Core.Option.{some}
use lib.ListN.{get_elem?}
use Rattle.tpcc_mailbox.proofs.Sorting.{picks_more, picks_left, at_read}
use Rattle.tpcc_mailbox.proofs.Shares.{there}
use Rattle.tpcc_mailbox.proofs.ending.reclaim.pick_out.Goals as goal

pub index_mut-requires : goal.index_mut-requires
index_mut-requires g c = let at : get_elem? c.args.places.now.items c.loop-i.i ≡ some c.index.result.now = at_read c.args.places.now.items c.loop-i.i c.index.result.now c.index.result.now (omega (arith, c.loop-i-test.true, c.len-i-end.ensures, c.args.places.now.ok.0)) (sym c.index.ensures) in omega (arith, c.requires.within _ _ at, c.loop-i.invariant.2)

pub loop-i-preserved : goal.loop-i-preserved
loop-i-preserved g c = let was = c.loop-i.invariant in let at : get_elem? c.args.places.now.items c.loop-i.i ≡ some c.index.result.now = at_read c.args.places.now.items c.loop-i.i c.index.result.now c.index.result.now (omega (arith, c.loop-i-test.true, c.len-i-end.ensures, c.args.places.now.ok.0)) (sym c.index.ensures) in
    let near = c.requires.within _ _ at in let held : get_elem? c.loop-i.held.items c.index.result.now ≡ some c.replace-found.result = at_read c.loop-i.held.items c.index.result.now c.index_mut.result.now c.index_mut.result.now (omega (arith, near, was.2, c.loop-i.held.ok.0)) (sym c.index_mut.ensures.value) ∙ ap some (sym c.replace-found.ensures.value) in (
      omega (arith, c.push_reserved.ensures.len, was.0),
      omega (arith, c.push_reserved.ensures.capacity, was.1),
      search rules,
      picks_more c.args.places.now.items c.loop-i.held.items _ c.loop-i.lefts.items _ c.loop-i.i c.index.result.now c.replace-found.result (sym c.loop-i.lefts.ok.0 ∙ was.0) c.push_reserved.ensures.items at held was.3 was.4,
      picks_left c.args.places.now.items c.loop-i.held.items _ _ c.loop-i.i c.index.result.now c.replace-found.new.dest refl at c.requires.apart was.4,
    )

pub returns-clause-each : goal.returns-clause-each
returns-clause-each g c i k x e f = let near = there _ i k e in c.loop-i.invariant.3 i k x (omega (arith, near, c.len-i-end.ensures, c.loop-i-test.false, c.args.places.now.ok.0)) e f
