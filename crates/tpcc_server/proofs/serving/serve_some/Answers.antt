use Rattle.std.proofs.Common.{rules, arith, refl, ap, ◌∙◌}
use Rattle.tpcc_mailbox.specs.Tokens.{serving_origin, serving_hand, serving_saw_closed, serving_splits, serving_answered}
use Rattle.tpcc_server.specs.Internal.TurnStates.{keeper_in}
use Rattle.tpcc_server.proofs.Rounds.{one_answer, goes_on}
use Rattle.tpcc_server.proofs.serving.serve_some.Goals.{in-Some, in_default}
use Rattle.tpcc_server.proofs.serving.serve_some.Goals as goal

pub take-requires-clause-origin : goal.take-requires-clause-origin
take-requires-clause-origin g c = c.loop-k.invariant.0 ∙ c.requires.origin

pub take-requires-clause-free : goal.take-requires-clause-free
take-requires-clause-free g c = c.loop-k.invariant.1

pub answer-requires-clause-origin : goal.answer-requires-clause-origin
answer-requires-clause-origin g c = c.take.ensures.origin ∙ c.loop-k.invariant.0 ∙ c.requires.origin

pub loop-k-preserved : goal.loop-k-preserved
loop-k-preserved g c = elim c.match-take.branch [
  | in-Some w ↦ (
    ap serving_origin w.serving-is ∙ w.answer.ensures.origin ∙ c.take.ensures.origin ∙ c.loop-k.invariant.0,
    ap serving_hand w.serving-is ∙ w.answer.ensures.free,
    ap serving_saw_closed w.serving-is ∙ w.answer.ensures.closed ∙ c.take.ensures.closed ∙ c.loop-k.invariant.2,
    ap serving_splits w.serving-is ∙ w.answer.ensures.splits ∙ c.take.ensures.splits ∙ c.loop-k.invariant.3,
    omega (arith, w.served-is, c.loop-k.invariant.4),
    omega (arith, w.served-is, c.loop-k.invariant.5, c.if-served-most.false),
    ap keeper_in w.state-is ∙ w.pass_after-state.ensures.keeper ∙ w.run_held-held.ensures.keeper ∙ w.hold.ensures.keeper ∙ w.pass_before-before.ensures.keeper ∙ c.loop-k.invariant.6,
    one_answer _ _ _ _ _ c.loop-k.k c.loop-k.invariant.7 (search rules) w.served-is,
  )
  | in_default w ↦ (
    ap serving_origin w.serving-is ∙ c.take.ensures.origin ∙ c.loop-k.invariant.0,
    search rules,
    ap serving_saw_closed w.serving-is ∙ c.take.ensures.closed ∙ c.loop-k.invariant.2,
    ap serving_splits w.serving-is ∙ c.take.ensures.splits ∙ c.loop-k.invariant.3,
    omega (arith, w.served-is, c.loop-k.invariant.4),
    omega (arith, w.served-is, c.loop-k.invariant.5),
    ap keeper_in w.state-is ∙ c.loop-k.invariant.6,
    goes_on _ _ _ _ _ c.loop-k.k _ c.loop-k.invariant.7 (ap serving_answered w.serving-is ∙ c.take.ensures.answered) w.served-is (omega arith),
  )
]

pub returns-clause-kept : goal.returns-clause-kept
returns-clause-kept g c = (c.loop-k.invariant.0, c.loop-k.invariant.3, c.loop-k.invariant.1)

pub returns-clause-closed : goal.returns-clause-closed
returns-clause-closed g c = c.loop-k.invariant.2

pub returns-clause-most : goal.returns-clause-most
returns-clause-most g c = c.loop-k.invariant.5

pub returns-clause-keeper : goal.returns-clause-keeper
returns-clause-keeper g c = c.loop-k.invariant.6

pub returns-clause-answered : goal.returns-clause-answered
returns-clause-answered g c = let a = c.loop-k.auto.k-end in let b = c.len-k-end.ensures.count in goes_on _ _ _ _ _ c.loop-k.k _ c.loop-k.invariant.7 refl refl (omega arith)
