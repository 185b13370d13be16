use Rattle.std.proofs.Common.{rules}
use Rattle.tpcc_storage.proofs.by_district.pending.PendingRowsStoreNewOrderRow.remove.Goals as goal

pub returns-in_default-2-clause-items : goal.returns-in_default-2-clause-items
returns-in_default-2-clause-items c = search rules
