use Rattle.std.proofs.Common.{rules}
use Rattle.tpcc_storage.proofs.keyed_row.OrderLineRowKeyedRow.has_key.Goals as goal

pub returns-then-self-sought-3 : goal.returns-then-self-sought-3
returns-then-self-sought-3 c = search rules

pub returns-else-self-sought-3 : goal.returns-else-self-sought-3
returns-else-self-sought-3 c = search rules
