use Rattle.std.proofs.Common.{◌≡◌}
use Rattle.tpcc_turns.specs.Internal.Gathering.{HasJoined}
use Rattle.tpcc_turns.proofs.turns.gather.join_all.Given as goal

abbrev pub invariant-loop-next : goal.invariant-loop-next
invariant-loop-next g l =
    (l.seat.table_id ≡ l.fn.board.table_id) × HasJoined l.fn.purses.items l.rest.items l.pool l.seat.me.0

abbrev pub decreases-loop-next : goal.decreases-loop-next
decreases-loop-next g l = goal.left-loop-next g l
