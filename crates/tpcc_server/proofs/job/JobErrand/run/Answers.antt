use Rattle.std.proofs.Common.{subst}
use Rattle.tpcc_turns.specs.Seats.{IsTurned}
use Rattle.tpcc_server.specs.Jobs.{JobView}
use Rattle.tpcc_server.proofs.job.JobErrand.run.Goals as goal

pub returns : goal.returns
returns g c = record {
  turned = subst (λ (j : JobView _). IsTurned j.request j.purse c.serve_by.result) c.self.view_is c.serve_by.ensures.turned;
}
