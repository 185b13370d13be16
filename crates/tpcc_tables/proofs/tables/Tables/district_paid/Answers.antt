use Rattle.std.proofs.Common.{rules}
use Rattle.tpcc_tables.proofs.tables.Tables.district_paid.Goals as goal

pub returns : goal.returns
returns c = search rules
