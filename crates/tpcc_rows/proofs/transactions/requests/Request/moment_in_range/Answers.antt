use Rattle.std.proofs.Common.{rules}
use Rattle.tpcc_rows.proofs.transactions.requests.Request.moment_in_range.Goals as goal

pub returns-in-Deliver : goal.returns-in-Deliver
returns-in-Deliver c = search rules
