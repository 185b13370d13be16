use Rattle.std.proofs.Common.{◌≡◌, ◌+◌, ◌≤◌, false, [], vec_len, vec_capacity}
use Rattle.tpcc_mailbox.specs.Rule.{view_with}
use Rattle.tpcc_mailbox.specs.Views.{Opening}
use Rattle.tpcc_mailbox.specs.Tokens.{AreNewIdles}
use Rattle.tpcc_mailbox.proofs.new_mailboxes.first_idles.Given as goal

abbrev pub invariant-loop-k : goal.invariant-loop-k
invariant-loop-k g l =
    (l.first.table_id ≡ l.table.shared.table_id) × (l.first.me.0 ≡ view_with (Opening l.k) false []) × (vec_len l.idles ≡ l.k) × (l.table.shared.table_id.slots ≤ vec_capacity l.idles)
    × (vec_len l.rooms + l.k ≡ l.table.shared.table_id.slots) × AreNewIdles l.table.shared.table_id l.idles.items
