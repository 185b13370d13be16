use Rattle.std.proofs.Common.{◌≡◌, ℕ, ◌+◌, ◌<◌, ◌≤◌, ◌++◌, map, reverse, vec_len, vec_capacity}
use mathlib.Core.Option.{some}
use lib.ListN.{get_elem?}
use Rattle.tpcc_mailbox.specs.Tokens.{client_mailbox}
use Rattle.tpcc_mailbox.specs.Internal.Roles.{client_role, AreClientsOf}
use Rattle.tpcc_mailbox.proofs.ending.gather.gather_clients.Given as goal

abbrev pub invariant-loop-client : goal.invariant-loop-client
invariant-loop-client g l =
    (l.all.table_id ≡ l.fn.all.table_id) × (l.all.id ≡ l.fn.all.id) × (l.all.me.1 ≡ l.fn.all.me.1)
    × (l.all.me.0.roles ++ reverse (map client_role l.clients.items) ≡ l.fn.all.me.0.roles ++ map client_role l.fn.clients.items)
    × AreClientsOf l.fn.shared.table_id l.clients.items
    × (l.places.items ++ reverse (map client_mailbox l.clients.items) ≡ map client_mailbox l.fn.clients.items)
    × ((k : ℕ) (x : ℕ) → get_elem? l.places.items k ≡ some x → x < l.count)
    × (vec_len l.places + vec_len l.clients ≤ vec_capacity l.places)

abbrev pub decreases-loop-client : goal.decreases-loop-client
decreases-loop-client g l = goal.left-loop-client g l
