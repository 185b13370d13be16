-- An entry as it is lent.
use Rattle.tpcc_rows.specs.declared.transactions.entry.Entry.{Entry}
use Rattle.tpcc_journal.specs.declared.journal.EntryRef.{EntryRef}

-- the entry that is lent
abbrev pub entry_of : EntryRef → Entry
entry_of e = record { terminal = e.terminal; number = e.number; request = e.request.now; reply = e.reply }
