use Rattle.std.proofs.Common.{rules}
use Rattle.tpcc_storage.proofs.by_district.pending.PendingRowsStoreNewOrderRow.place_of.Goals as goal

pub returns-in_default : goal.returns-in_default
returns-in_default c = search rules
