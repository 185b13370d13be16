use Rattle.std.proofs.Common.{◌≡◌, ◌≤◌, length, map}
use Rattle.std.specs.List.{range_with_len}
use Rattle.tpcc_run.specs.Purses.{with_rooms}
use Rattle.tpcc_run.specs.Internal.Started.{HaveStarted}
use Rattle.tpcc_run.proofs.threads.RunThreads.start_terminals.Given as goal

abbrev pub invariant-loop-number : goal.invariant-loop-number
invariant-loop-number g l = record {
  rest : l.fn.first ≡ with_rooms l.first l.number;
  most : length l.handles.items ≤ l.number;
  all : length l.handles.items ≡ l.number → HaveStarted l.self.scale l.self.plan (range_with_len 1 l.number) (map (λ handle. handle.promise) l.handles.items);
}
