use Rattle.std.proofs.Common.{rules}
use Rattle.tpcc_tables.proofs.changes.delivery.DeliveredAmountRowChangeCustomerRow.apply.Goals as goal

pub returns : goal.returns
returns c = search rules
