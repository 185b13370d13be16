use Rattle.std.proofs.Common.{rules}
use Rattle.tpcc_journal.proofs.journal.Journal.reserve_entry.Goals as goal

pub returns-clause-room : goal.returns-clause-room
returns-clause-room c = search rules
