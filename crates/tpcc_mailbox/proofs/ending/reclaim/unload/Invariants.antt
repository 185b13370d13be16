use Rattle.std.proofs.Common.{◌≡◌, ℕ, ◌<◌, ◌≤◌, false, get_or, slice_index, vec_len, vec_capacity}
use mathlib.Core.Option.{some}
use lib.ListN.{get_elem?}
use Rattle.std.specs.Slots.{slots_items, slots_filled, slots_len}
use Rattle.std.specs.Slots.Ownership.{Filled}
use Rattle.tpcc_mailbox.specs.Internal.Rule.{word_of}
use Rattle.tpcc_mailbox.specs.Internal.Lefts.{mailbox_left}
use Rattle.tpcc_mailbox.proofs.ending.reclaim.unload.Given as goal

abbrev pub invariant-loop-k : goal.invariant-loop-k
invariant-loop-k g l =
    Filled (slots_filled l.closed.slots) l.k (slots_len l.closed.slots)
    × ((k : ℕ) → k < l.k → get_or (slots_filled l.closed.slots) k false ≡ false)
    × (l.closed.words ≡ l.fn.closed.words) × (slots_len l.closed.slots ≡ slots_len l.fn.closed.slots) × (slots_items l.closed.slots ≡ slots_items l.fn.closed.slots)
    × (vec_len l.lefts ≡ l.k) × (slots_len l.closed.slots ≤ vec_capacity l.lefts)
    × ((k : ℕ) (x : _) → k < l.k → get_elem? (slots_items l.fn.closed.slots) k ≡ some x → get_elem? l.lefts.items k ≡ some (mailbox_left (slice_index (slots_items l.fn.closed.words) (word_of k)) x))
