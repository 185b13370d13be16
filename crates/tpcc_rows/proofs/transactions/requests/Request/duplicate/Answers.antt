use Rattle.std.proofs.Common.{rules}
use Rattle.tpcc_rows.proofs.transactions.requests.Request.duplicate.Goals as goal

pub returns-in-Stock : goal.returns-in-Stock
returns-in-Stock c = search rules
