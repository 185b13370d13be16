use Rattle.std.proofs.Common.{◌≡◌, ◌≤◌, None}
use Rattle.tpcc_mailbox.specs.Tokens.{identity, serving_origin, serving_hand, serving_splits, serving_answered}
use Rattle.tpcc_turns.specs.Seats.{keeper_of}
use Rattle.tpcc_server.specs.Internal.TurnStates.{keeper_in}
use Rattle.tpcc_server.specs.Rounds.{HasAnswered}
use Rattle.tpcc_server.proofs.serving.serve_until_closed.Given as goal

abbrev pub invariant-loop : goal.invariant-loop
invariant-loop g l = (serving_origin l.serving ≡ identity l.mailboxes) × (serving_hand l.serving ≡ None) × (serving_splits l.serving ≡ serving_splits l.fn.serving) × (l.served ≤ l.limit) × (keeper_in l.state ≡ keeper_of l.fn.keeper) × HasAnswered (serving_answered l.fn.serving) (serving_answered l.serving) l.served
