use Rattle.std.proofs.Common.{rules}
use Rattle.tpcc_money.proofs.moment.Moment.new.Goals as goal

pub returns : goal.returns
returns c = search rules
