use Rattle.std.proofs.Common.{rules}
use Rattle.tpcc_server.proofs.job.fn.Job.run_held.serve_held.Goals as goal

pub returns : goal.returns
returns g c = search rules
