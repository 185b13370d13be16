use Rattle.std.proofs.Common.{rules}
use Rattle.tpcc_delivery.proofs.runs.deliver_next.Goals as goal

pub returns-clause-state : goal.returns-clause-state
returns-clause-state c = search rules
