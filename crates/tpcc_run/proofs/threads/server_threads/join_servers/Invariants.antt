use Rattle.std.proofs.Common.{◌≡◌, ◌++◌, map}
use Rattle.std.specs.Prelude.{None}
use Rattle.std.specs.Vec.Iter.{into_iter_items}
use Rattle.tpcc_audit.specs.Settlement.{AllSeen, all_receipts}
use Rattle.tpcc_run.specs.Internal.Started.{HaveJoinedServers}
use Rattle.tpcc_run.proofs.threads.server_threads.join_servers.Given as goal

abbrev pub invariant-loop-handle : goal.invariant-loop-handle
invariant-loop-handle g l = record {
  can : (goal.iterator-loop-handle g).can_next l.handle-iterator;
  finite : (goal.iterator-loop-handle g).is_finite l.handle-iterator;
  whole : l.fn.handles.items ≡ l.yielded ++ into_iter_items l.handle-iterator;
  seen : AllSeen l.all.purses.items (all_receipts l.all.receipts.items);
  before : l.all.fault ≡ None → l.fn.all.fault ≡ None;
  joined : l.all.fault ≡ None → HaveJoinedServers (map (λ handle. handle.promise) l.yielded) l.fn.all.purses.items l.fn.all.receipts.items l.all.purses.items l.all.receipts.items;
}
