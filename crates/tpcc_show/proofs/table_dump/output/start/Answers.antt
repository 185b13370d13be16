use Rattle.std.proofs.Common.{rules}
use Rattle.tpcc_show.proofs.table_dump.output.start.Goals as goal

pub returns : goal.returns
returns c = search rules
