use Rattle.std.proofs.Common.{rules}
use Rattle.tpcc_run.proofs.threads.duty.next_request.Goals as goal

pub returns-in-Cards-clause-next : goal.returns-in-Cards-clause-next
returns-in-Cards-clause-next c = search rules
