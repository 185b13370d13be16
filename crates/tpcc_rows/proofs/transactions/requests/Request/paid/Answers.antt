use Rattle.std.proofs.Common.{rules}
use Rattle.tpcc_rows.proofs.transactions.requests.Request.paid.Goals as goal

pub returns-in-Payment : goal.returns-in-Payment
returns-in-Payment c = search rules

pub returns-in_default : goal.returns-in_default
returns-in_default c = search rules
