use Rattle.std.proofs.Common.{rules}
use Rattle.tpcc_tables.proofs.tables.Tables.customer_paid.Goals as goal

pub returns : goal.returns
returns c = search rules
