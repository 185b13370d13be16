use Rattle.std.proofs.Common.{rules}
use Rattle.tpcc_rows.proofs.transactions.requests.Lines.new.Goals as goal

pub returns : goal.returns
returns c = search rules
