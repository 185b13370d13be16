use Rattle.std.proofs.Common.{rules}
use Rattle.tpcc_show.proofs.table_names.table_named.Goals as goal

pub returns-clause-unknown : goal.returns-clause-unknown
returns-clause-unknown c = search rules
