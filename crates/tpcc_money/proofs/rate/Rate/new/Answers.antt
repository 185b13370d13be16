use Rattle.std.proofs.Common.{rules}
use Rattle.tpcc_money.proofs.rate.Rate.new.Goals as goal

pub returns : goal.returns
returns c = search rules
