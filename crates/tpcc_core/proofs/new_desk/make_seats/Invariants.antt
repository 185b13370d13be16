use Rattle.std.proofs.Common.{◌≡◌, ◌≤◌, ◌-◌, pos, vec_len, vec_capacity}
use Rattle.tpcc_book.specs.Purses.{most_purses}
use Rattle.tpcc_core.specs.OpeningDesk.{seats_of}
use Rattle.tpcc_core.proofs.new_desk.make_seats.Given as goal

abbrev pub invariant-loop-k : goal.invariant-loop-k
invariant-loop-k g l = record {
  count : vec_len l.seats ≡ l.k;
  room : l.terminals ≤ vec_capacity l.seats;
  so_far : l.seats.items ≡ seats_of l.k;
  first : l.first ≡ record { terminal = 0; entries = 0; paid = pos 0; room = most_purses - l.k };
}
