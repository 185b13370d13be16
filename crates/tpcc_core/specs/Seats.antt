-- What contracts see of a terminal's seat.
use Rattle.std.specs.Prelude.{Bool, true, false, List, Option, Some, None}
use Rattle.tpcc_core.specs.declared.mailbox.Mailbox.{Mailbox}
use Rattle.tpcc_core.specs.declared.mailbox.Mailbox.TheVariants as box
use Rattle.tpcc_core.specs.declared.mailbox.Collected.{Collected}

-- the mailbox, and the answers that were collected, the first first
pub record SeatNow (P : Type 0) : Type 0 where
  pub mailbox : Mailbox P
  pub collected : List Collected

abbrev pub is_free : {P : Type 0} → Mailbox P → Bool
is_free (box.Free purse) = true
is_free (box.Posted letter) = false
is_free (box.Taken server) = false
is_free (box.Answered answer) = false

abbrev pub is_posted : {P : Type 0} → Mailbox P → Bool
is_posted (box.Free purse) = false
is_posted (box.Posted letter) = true
is_posted (box.Taken server) = false
is_posted (box.Answered answer) = false

abbrev pub is_answered : {P : Type 0} → Mailbox P → Bool
is_answered (box.Free purse) = false
is_answered (box.Posted letter) = false
is_answered (box.Taken server) = false
is_answered (box.Answered answer) = true

abbrev pub is_taken : {P : Type 0} → Mailbox P → Bool
is_taken (box.Free purse) = false
is_taken (box.Posted letter) = false
is_taken (box.Taken server) = true
is_taken (box.Answered answer) = false

-- the purse is at the terminal while its mailbox is free
abbrev pub purse_at : {P : Type 0} → Mailbox P → Option P
purse_at (box.Free purse) = Some purse
purse_at (box.Posted letter) = None
purse_at (box.Taken server) = None
purse_at (box.Answered answer) = None
