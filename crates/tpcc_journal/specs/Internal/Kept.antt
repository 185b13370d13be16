-- Entries and replies as the journal keeps them.
use Rattle.std.specs.Prelude.{◌≡◌, ℕ, Bool, true, List, Option, None, length, nat_lt, option_map, slice_get, unwrap_or}
use Rattle.tpcc_rows.specs.declared.transactions.entry.Entry.{Entry}
use Rattle.tpcc_rows.specs.declared.transactions.replies.AcceptedOrder.{AcceptedOrder}
use Rattle.tpcc_rows.specs.declared.transactions.replies.Paid.{Paid}
use Rattle.tpcc_rows.specs.declared.transactions.replies.Status.{Status}
use Rattle.tpcc_rows.specs.declared.transactions.replies.Reply.{Reply}
use Rattle.tpcc_rows.specs.declared.transactions.replies.Reply.TheVariants as tell
use Rattle.tpcc_rows.specs.declared.transactions.replies.Entered.TheVariants as entered
use Rattle.tpcc_rows.specs.declared.transactions.replies.Delivery.TheVariants.{NoneQueued}
use Rattle.tpcc_rows.specs.declared.transactions.replies.DistrictDelivery.{DistrictDelivery}
use Rattle.tpcc_rows.specs.Replay.{district_delivery}
use Rattle.tpcc_journal.specs.declared.stored.StoredReply.{StoredReply}
use Rattle.tpcc_journal.specs.declared.stored.StoredReply.TheVariants as kept
use Rattle.tpcc_journal.specs.declared.stored.StoredEntry.{StoredEntry}

-- the long replies, kind by kind
pub record Kinds : Type 0 where
  pub orders : List AcceptedOrder
  pub payments : List Paid
  pub statuses : List Status

-- the same, and for how many more of each kind there is room
pub record Shelf : Type 0 where
  pub kinds : Kinds
  pub room : ℕ

-- a reply is there, or stands among those of its kind
abbrev pub is_in : Kinds → StoredReply → Bool
is_in kinds (kept.Accepted place) = nat_lt place (length kinds.orders)
is_in kinds (kept.RolledBack order) = true
is_in kinds (kept.Paid place) = nat_lt place (length kinds.payments)
is_in kinds (kept.Status place) = nat_lt place (length kinds.statuses)
is_in kinds (kept.Level level) = true
is_in kinds (kept.Queued ticket) = true
is_in kinds (kept.Delivery delivery) = true

-- the reply at a place; past the end any would do
abbrev pub reply_at : {X : Type 0} → (X → Reply) → List X → ℕ → Reply
reply_at reply xs place = unwrap_or (option_map reply (slice_get xs place)) (tell.Delivery NoneQueued)

abbrev pub reply_in : Kinds → StoredReply → Reply
reply_in kinds (kept.Accepted place) = reply_at (λ order. tell.Entered (entered.Accepted order)) kinds.orders place
reply_in kinds (kept.RolledBack order) = tell.Entered (entered.RolledBack order)
reply_in kinds (kept.Paid place) = reply_at tell.Paid kinds.payments place
reply_in kinds (kept.Status place) = reply_at tell.Status kinds.statuses place
reply_in kinds (kept.Level level) = tell.Level level
reply_in kinds (kept.Queued ticket) = tell.Queued ticket
reply_in kinds (kept.Delivery delivery) = tell.Delivery delivery

-- each reply that was there is there as it was
abbrev pub Keeps : Kinds → Kinds → Type 0
Keeps old new = (r : StoredReply) → is_in old r ≡ true → (is_in new r ≡ true) × (reply_in new r ≡ reply_in old r)

-- the entry that is kept so
abbrev pub entry_in : Kinds → StoredEntry → Entry
entry_in kinds e = record { terminal = e.terminal; number = e.number; request = e.request; reply = reply_in kinds e.reply }

-- the run of the entry at a place, if there is one
abbrev pub run_at : List Entry → ℕ → Option DistrictDelivery
run_at entries place = unwrap_or (option_map (λ entry. district_delivery entry.reply) (slice_get entries place)) None
