use Rattle.tpcc_core.proofs.Ends.{opening_desk_after, events_more}
use Rattle.tpcc_core.proofs.laws.events_follow.Goals as goal

pub returns : goal.returns
returns c = record { start = opening_desk_after; more = events_more }
