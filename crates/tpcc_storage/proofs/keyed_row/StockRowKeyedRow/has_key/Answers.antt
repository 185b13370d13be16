use Rattle.std.proofs.Common.{rules}
use Rattle.tpcc_storage.proofs.keyed_row.StockRowKeyedRow.has_key.Goals as goal

pub returns-then-self-sought : goal.returns-then-self-sought
returns-then-self-sought c = search rules

pub returns-else-self-sought : goal.returns-else-self-sought
returns-else-self-sought c = search rules
