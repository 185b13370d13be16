use Rattle.std.proofs.Common.{rules}
use Rattle.tpcc_server.proofs.job.Job.of.Goals as goal

pub returns-clause-request : goal.returns-clause-request
returns-clause-request g c = search rules
