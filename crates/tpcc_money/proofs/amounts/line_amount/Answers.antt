use Rattle.std.proofs.Common.{rules}
use Rattle.tpcc_money.proofs.amounts.line_amount.Goals as goal

pub returns : goal.returns
returns c = search rules
