use Rattle.std.proofs.Common.{rules}
use Rattle.tpcc_tables.proofs.sums.Sums.of.Goals as goal

pub returns-in_err-sums : goal.returns-in_err-sums
returns-in_err-sums c = search rules

pub returns : goal.returns
returns c = search rules

pub enter_all-requires-clause-before : goal.enter_all-requires-clause-before
enter_all-requires-clause-before c = c.pay_all.ensures
