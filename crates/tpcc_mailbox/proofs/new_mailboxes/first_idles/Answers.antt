use Rattle.std.proofs.Common.{◌≡◌, arith, ap, ◌∙◌, sym, false, [], length}
use Rattle.std.proofs.lemmas.Grind.{common_steps}
use Rattle.tpcc_mailbox.specs.Rule.{view_with}
use Rattle.tpcc_mailbox.specs.Views.{Opening}
use Rattle.tpcc_mailbox.proofs.Begins.{new_more, new_none}
use Rattle.tpcc_mailbox.proofs.new_mailboxes.first_idles.Goals as goal

pub loop-k-init : goal.loop-k-init
loop-k-init g c = (c.requires.fits, c.requires.opens, c.args.idles.now.ok.0 ∙ ap length c.requires.room.1, c.requires.room.2, omega (arith, c.requires.room.0), new_none _ _ c.requires.room.1)

pub push_reserved-requires : goal.push_reserved-requires
push_reserved-requires g c = let was = c.loop-k.invariant in omega (arith, was.2, was.3, c.loop-k-test.true, c.len-k-end.ensures, c.requires.room.0)

pub loop-k-preserved : goal.loop-k-preserved
loop-k-preserved g c = let was = c.loop-k.invariant in (
  c.first_idle.ensures.fits,
  c.first_idle.ensures.opens,
  omega (arith, c.push_reserved.ensures.len, was.2),
  omega (arith, c.push_reserved.ensures.capacity, was.3),
  grind (arith, common_steps),
  new_more _ _ _ _ c.push_reserved.ensures.items was.5 c.first_idle.ensures.origin (c.first_idle.ensures.number ∙ (sym was.2 ∙ c.loop-k.idles.ok.0)) c.first_idle.ensures.open,
)

pub returns-clause-fits : goal.returns-clause-fits
returns-clause-fits g c = c.loop-k.invariant.0

pub returns-clause-opens : goal.returns-clause-opens
returns-clause-opens g c = let all : c.loop-k.k ≡ c.args.table.now.shared.table_id.slots = omega (arith, c.loop-k-test.false, c.loop-k.auto.k-end, c.len-k-end.ensures, c.requires.room.0) in
    c.loop-k.invariant.1 ∙ ap (λ k. view_with (Opening k) false []) all

pub returns-clause-len : goal.returns-clause-len
returns-clause-len g c = omega (arith, c.loop-k.invariant.2, c.loop-k-test.false, c.loop-k.auto.k-end, c.len-k-end.ensures, c.requires.room.0)

pub returns-clause-numbers : goal.returns-clause-numbers
returns-clause-numbers g c = c.loop-k.invariant.5
