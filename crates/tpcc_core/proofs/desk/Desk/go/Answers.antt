use Rattle.std.proofs.Common.{rules}
use Rattle.tpcc_core.proofs.Running.{ready_step, no_step}
use Rattle.tpcc_core.proofs.desk.Desk.go.Goals as goal

pub returns-clause-went : goal.returns-clause-went
returns-clause-went g c = search (rules, ready_step, no_step)
