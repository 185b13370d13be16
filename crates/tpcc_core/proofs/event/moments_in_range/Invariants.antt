use Rattle.std.proofs.Common.{◌≡◌, true, take}
use Rattle.std.specs.List.{list_all}
use Rattle.tpcc_core.specs.After.{is_in_range}
use Rattle.tpcc_core.proofs.event.moments_in_range.Given as goal

abbrev pub invariant-loop-event : goal.invariant-loop-event
invariant-loop-event l = list_all is_in_range (take l.event-index l.events) ≡ true
