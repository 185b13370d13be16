use Rattle.std.proofs.Common.{◌≡◌, ◌≤◌, None}
use Rattle.tpcc_mailbox.specs.Tokens.{serving_origin, serving_hand, serving_splits, serving_answered, serving_saw_closed}
use Rattle.tpcc_server.specs.Internal.TurnStates.{keeper_in}
use Rattle.tpcc_server.specs.Rounds.{HasAnsweredInTurn}
use Rattle.tpcc_server.proofs.serving.serve_some.Given as goal

abbrev pub invariant-loop-k : goal.invariant-loop-k
invariant-loop-k g l = (serving_origin l.serving ≡ serving_origin l.fn.serving) × (serving_hand l.serving ≡ None) × (serving_saw_closed l.serving ≡ serving_saw_closed l.fn.serving) × (serving_splits l.serving ≡ serving_splits l.fn.serving) × (l.served ≤ l.k) × (l.served ≤ l.most) × (keeper_in l.state ≡ keeper_in l.fn.state) × HasAnsweredInTurn (serving_answered l.fn.serving) (serving_answered l.serving) l.served l.k
