use Rattle.std.proofs.Common.{◌≡◌, ◌≤◌, vec_len, vec_capacity}
use Rattle.tpcc_mailbox.proofs.new_mailboxes.make_rooms.Given as goal

abbrev pub invariant-loop : goal.invariant-loop
invariant-loop g l = (vec_len l.rooms ≡ l.counter) × (l.count ≤ vec_capacity l.rooms)
