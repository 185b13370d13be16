use Rattle.std.proofs.Common.{◌+◌}
use Rattle.tpcc_turns.proofs.Keepers.{ends_held}
use Rattle.tpcc_turns.proofs.turns.Turns.end.Goals as goal

pub end-requires-clause-holds : goal.end-requires-clause-holds
end-requires-clause-holds g c =
    let h = c.held.inside in
    let i = c.held.invariant in ends_held h.seat.me h.ticket (h.purse.room + 1) i.book i.holds i.numbered i.opened
