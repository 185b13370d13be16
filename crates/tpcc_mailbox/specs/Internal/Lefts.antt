-- What is left in one mailbox, by its word and its slot.
use Rattle.std.specs.Prelude.{ℕ, Option, Some, None, if◌then◌else◌, ◌==◌}
use Rattle.tpcc_mailbox.specs.declared.words.rule.Mail.{Mail}
use Rattle.tpcc_mailbox.specs.declared.words.rule.Mail.TheVariants as mails
use Rattle.tpcc_mailbox.specs.declared.ending.reclaim.Left.{Left}
use Rattle.tpcc_mailbox.specs.declared.ending.reclaim.Left.TheVariants.{Nothing, Letter, Reply, Held}

module _ {J A : Type 0} where
  -- what the slot of a mailbox holds
  abbrev pub slot_left : Option (Mail J A) → Left J A
  slot_left None = Nothing
  slot_left (Some (mails.Letter j)) = Letter j
  slot_left (Some (mails.Reply a)) = Reply a

  -- what is left in a mailbox, by its word and its slot
  abbrev pub mailbox_left : ℕ → Option (Mail J A) → Left J A
  mailbox_left w x = if w == 0 then Nothing else (if w == 2 then Held else slot_left x)
