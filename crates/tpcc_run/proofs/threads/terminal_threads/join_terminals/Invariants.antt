use Rattle.std.proofs.Common.{◌≡◌, length}
use Rattle.std.specs.Prelude.{None}
use Rattle.tpcc_audit.specs.Settlement.{AllSeen, all_receipts}
use Rattle.tpcc_run.proofs.Joined.{JoinedSoFar}
use Rattle.tpcc_run.proofs.threads.terminal_threads.join_terminals.Given as goal

abbrev pub invariant-loop-handle : goal.invariant-loop-handle
invariant-loop-handle g l = record {
  seen : AllSeen l.all.purses.items (all_receipts l.all.receipts.items);
  before : l.all.fault ≡ None → l.fn.all.fault ≡ None;
  joined : l.all.fault ≡ None → JoinedSoFar (λ handle. handle.promise) l.fn.handles.items l.handles.items l.fn.all.purses.items l.fn.all.receipts.items l.all.purses.items l.all.receipts.items;
}

abbrev pub decreases-loop-handle : goal.decreases-loop-handle
decreases-loop-handle g l = length l.handles.items
