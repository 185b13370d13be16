use Rattle.std.proofs.Common.{rules}
use Rattle.tpcc_run.proofs.threads.operator.Operator.new.Goals as goal

pub invariant_of-result : goal.invariant_of-result
invariant_of-result g c = search rules

pub returns-clause-terminal : goal.returns-clause-terminal
returns-clause-terminal g c = search rules
