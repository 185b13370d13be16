use Rattle.std.proofs.Common.{rules}
use Rattle.tpcc_storage.proofs.by_district.pending.PendingRowsStoreNewOrderRow.len.Goals as goal

pub returns-in_default : goal.returns-in_default
returns-in_default c = search rules
