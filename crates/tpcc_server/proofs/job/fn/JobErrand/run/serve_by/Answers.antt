use Rattle.std.proofs.Common.{rules}
use Rattle.tpcc_server.proofs.job.fn.JobErrand.run.serve_by.Goals as goal

pub returns : goal.returns
returns g c = search rules
