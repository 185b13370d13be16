use Rattle.std.proofs.Common.{rules}
use Rattle.tpcc_rows.proofs.transactions.requests.Order.duplicate.Goals as goal

pub returns-in_err-lines : goal.returns-in_err-lines
returns-in_err-lines c = search rules

pub returns : goal.returns
returns c = search rules
