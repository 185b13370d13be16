use Rattle.std.proofs.Common.{rules}
use Rattle.tpcc_money.proofs.moment.Moment.civil.Goals as goal

pub returns-clause-instant : goal.returns-clause-instant
returns-clause-instant c = search rules

pub returns-clause-range : goal.returns-clause-range
returns-clause-range c = search rules
