use Rattle.std.proofs.Common.{◌≡◌, ℕ, ◌<◌, ◌≤◌, vec_len, vec_capacity}
use mathlib.Core.Option.{some}
use lib.ListN.{get_elem?}
use Rattle.tpcc_mailbox.proofs.ending.reclaim.pick_out.Given as goal

abbrev pub invariant-loop-i : goal.invariant-loop-i
invariant-loop-i g l =
    (vec_len l.lefts ≡ l.i) × (vec_len l.places ≤ vec_capacity l.lefts) × (vec_len l.held ≡ vec_len l.fn.held)
    × ((i : ℕ) (k : ℕ) (x : _) → i < l.i → get_elem? l.places.items i ≡ some k → get_elem? l.fn.held.items k ≡ some x → get_elem? l.lefts.items i ≡ some x)
    × ((i : ℕ) (k : ℕ) → l.i ≤ i → get_elem? l.places.items i ≡ some k → get_elem? l.held.items k ≡ get_elem? l.fn.held.items k)
