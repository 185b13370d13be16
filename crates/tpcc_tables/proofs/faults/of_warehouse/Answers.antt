use Rattle.std.proofs.Common.{rules}
use Rattle.tpcc_tables.proofs.faults.of_warehouse.Goals as goal

pub returns : goal.returns
returns c = search rules
