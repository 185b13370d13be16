use Rattle.std.proofs.Common.{◌≡◌, ◌+◌, ◌≤◌, length, map}
use Rattle.std.specs.List.{range_with_len}
use Rattle.tpcc_mailbox.specs.Tokens.{identity, serving_origin}
use Rattle.tpcc_run.specs.Purses.{with_rooms}
use Rattle.tpcc_run.specs.Internal.Started.{HaveStartedServers}
use Rattle.tpcc_run.proofs.threads.RunThreads.start_servers.Given as goal

abbrev pub invariant-loop-number : goal.invariant-loop-number
invariant-loop-number g l = record {
  origin : serving_origin l.serving ≡ identity l.mailboxes;
  rest : l.fn.first ≡ with_rooms l.first l.number;
  most : length l.handles.items ≤ l.number;
  all : length l.handles.items ≡ l.number → HaveStartedServers l.fn.first (range_with_len (l.self.plan.terminals + 2) l.number) (map (λ handle. handle.promise) l.handles.items);
}
