-- The room that a terminal has for its next answer.
use Rattle.std.specs.Prelude.{ℕ, ◌<◌, ⊤}
use Rattle.tpcc_core.specs.declared.mailbox.Mailbox.{Mailbox}
use Rattle.tpcc_core.specs.declared.mailbox.Mailbox.TheVariants as box

-- there is room for one more answer unless the mailbox is free
abbrev pub HasRoom : {P : Type 0} → Mailbox P → ℕ → ℕ → Type 0
HasRoom (box.Free purse) len room = ⊤
HasRoom (box.Posted letter) len room = len < room
HasRoom (box.Taken server) len room = len < room
HasRoom (box.Answered answer) len room = len < room
