use Rattle.std.proofs.Common.{rules}
use Rattle.tpcc_show.proofs.table_names.table_name.Goals as goal

pub returns-in-OrderLine : goal.returns-in-OrderLine
returns-in-OrderLine c = search rules
