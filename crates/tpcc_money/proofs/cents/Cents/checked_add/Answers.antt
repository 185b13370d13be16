use Rattle.std.proofs.Common.{rules}
use Rattle.tpcc_money.proofs.cents.Cents.checked_add.Goals as goal

pub returns-clause-sum : goal.returns-clause-sum
returns-clause-sum c = search rules

pub returns-clause-fits : goal.returns-clause-fits
returns-clause-fits c = search rules
