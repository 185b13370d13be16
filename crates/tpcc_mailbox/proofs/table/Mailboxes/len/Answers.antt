use Rattle.std.proofs.Common.{rules}
use Rattle.tpcc_mailbox.proofs.table.Mailboxes.len.Goals as goal

pub returns : goal.returns
returns g c = search rules
