use Rattle.std.proofs.Common.{◌≡◌, ◌≤◌, vec_len, vec_capacity}
use Rattle.tpcc_core.specs.OpeningDesk.{hands_of}
use Rattle.tpcc_core.proofs.new_desk.make_servers.Given as goal

abbrev pub invariant-loop-k : goal.invariant-loop-k
invariant-loop-k g l = record {
  count : vec_len l.hands ≡ l.k;
  room : l.servers ≤ vec_capacity l.hands;
  so_far : l.hands.items ≡ hands_of l.k;
}
