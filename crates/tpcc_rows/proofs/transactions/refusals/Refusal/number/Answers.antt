use Rattle.std.proofs.Common.{rules}
use Rattle.tpcc_rows.proofs.transactions.refusals.Refusal.number.Goals as goal

pub returns-in-Amount : goal.returns-in-Amount
returns-in-Amount c = search rules
