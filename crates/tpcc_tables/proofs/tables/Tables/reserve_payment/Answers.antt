use Rattle.std.proofs.Common.{rules}
use Rattle.tpcc_tables.proofs.tables.Tables.reserve_payment.Goals as goal

pub invariant_of-self-2 : goal.invariant_of-self-2
invariant_of-self-2 c = search rules
