use Rattle.std.proofs.Common.{rules, arith, ◌∙◌}
use Rattle.tpcc_server.proofs.Rounds.{one_round, same_answers}
use Rattle.tpcc_server.proofs.serving.serve_until_closed.Goals.{in-None, in-Some+then-closed}
use Rattle.tpcc_server.proofs.serving.serve_until_closed.Goals as goal

pub is_closed-closed-requires : goal.is_closed-closed-requires
is_closed-closed-requires g c = record { origin = c.loop.invariant.0 }

pub serve_some-answered-requires-clause-origin : goal.serve_some-answered-requires-clause-origin
serve_some-answered-requires-clause-origin g c = c.is_closed-closed.ensures.origin ∙ c.loop.invariant.0

pub serve_some-answered-requires-clause-free : goal.serve_some-answered-requires-clause-free
serve_some-answered-requires-clause-free g c = c.is_closed-closed.ensures.hand ∙ c.loop.invariant.1

pub loop-preserved-then-answered-eq0 : goal.loop-preserved-then-answered-eq0
loop-preserved-then-answered-eq0 g c =
    let kept = c.serve_some-answered.ensures.kept in (
      kept.0 ∙ c.is_closed-closed.ensures.origin ∙ c.loop.invariant.0,
      kept.2,
      kept.1 ∙ c.is_closed-closed.ensures.splits ∙ c.loop.invariant.2,
      (let most = c.serve_some-answered.ensures.most in let before = c.loop.invariant.3 in omega arith),
      c.pause-state.ensures.keeper ∙ c.give_way-state.ensures.keeper ∙ c.serve_some-answered.ensures.keeper ∙ c.loop.invariant.4,
      one_round _ _ _ _ _ _ _ c.loop.invariant.5 c.is_closed-closed.ensures.answered c.serve_some-answered.ensures.answered,
    )

pub loop-preserved : goal.loop-preserved
loop-preserved g c =
    let kept = c.serve_some-answered.ensures.kept in (
      kept.0 ∙ c.is_closed-closed.ensures.origin ∙ c.loop.invariant.0,
      kept.2,
      kept.1 ∙ c.is_closed-closed.ensures.splits ∙ c.loop.invariant.2,
      (let most = c.serve_some-answered.ensures.most in let before = c.loop.invariant.3 in omega arith),
      c.give_way-state.ensures.keeper ∙ c.serve_some-answered.ensures.keeper ∙ c.loop.invariant.4,
      one_round _ _ _ _ _ _ _ c.loop.invariant.5 c.is_closed-closed.ensures.answered c.serve_some-answered.ensures.answered,
    )

pub returns-clause-answered : goal.returns-clause-answered
returns-clause-answered g c = elim c.match-next.branch [
  | in-None w ↦ same_answers _ _ _ _ _ c.loop.invariant.5 (search rules) (search rules)
  | in-Some+then-closed w ↦ same_answers _ _ _ _ _ (one_round _ _ _ _ _ _ _ c.loop.invariant.5 w.is_closed-closed.ensures.answered w.serve_some-answered.ensures.answered) (search rules) (search rules)
]

pub returns-clause-fewer : goal.returns-clause-fewer
returns-clause-fewer g c = search rules
