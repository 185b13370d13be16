use Rattle.std.proofs.Common.{rules}
use Rattle.tpcc_storage.proofs.keyed_row.OrderRowKeyedRow.has_key.Goals as goal

pub returns-then-self-sought-2 : goal.returns-then-self-sought-2
returns-then-self-sought-2 c = search rules

pub returns-else-self-sought-2 : goal.returns-else-self-sought-2
returns-else-self-sought-2 c = search rules
