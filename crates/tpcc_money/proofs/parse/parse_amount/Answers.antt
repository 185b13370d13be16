use Rattle.std.proofs.Common.{rules}
use Rattle.tpcc_money.proofs.parse.parse_amount.Goals as goal

pub returns : goal.returns
unfolding Rattle.tpcc_money.specs.Numerals.amount_of
returns c = search rules
