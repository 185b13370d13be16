use Rattle.std.proofs.Common.{◌≡◌, ◌++◌, length}
use Rattle.std.specs.Vec.Iter.{into_iter_items}
use Rattle.tpcc_core.specs.Runs.{Passes}
use Rattle.tpcc_core.proofs.desk.Desk.run.Given as goal

abbrev pub invariant-loop-event : goal.invariant-loop-event
invariant-loop-event g l = record {
  can : (goal.iterator-loop-event g).can_next l.event-iterator;
  finite : (goal.iterator-loop-event g).is_finite l.event-iterator;
  passes : Passes l.fn.self l.yielded l.self;
  counted : l.count ≡ length l.yielded;
  whole : l.fn.events.items ≡ l.yielded ++ into_iter_items l.event-iterator;
}
