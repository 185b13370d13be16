use Rattle.std.proofs.Common.{rules}
use Rattle.tpcc_lookups.proofs.orders.judge_status.Goals as goal

pub returns-clause-accepted : goal.returns-clause-accepted
returns-clause-accepted c = search rules
