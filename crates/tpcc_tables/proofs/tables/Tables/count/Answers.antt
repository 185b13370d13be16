use Rattle.std.proofs.Common.{rules}
use Rattle.tpcc_tables.specs.Positions.{count_of}
use Rattle.tpcc_tables.proofs.tables.Tables.count.Goals as goal

pub returns-in-Stock : goal.returns-in-Stock
unfolding count_of
returns-in-Stock c = search rules
