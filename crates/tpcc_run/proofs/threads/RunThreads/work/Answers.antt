use Rattle.tpcc_run.proofs.Worked.{has_worked}
use Rattle.tpcc_run.proofs.threads.RunThreads.work.Goals as goal

pub returns : goal.returns
returns g c = record {
  worked = has_worked c.args.duty c.args.self.now.scale c.args.self.now.plan c.args.operator c.ask_all.result c.requires.empty c.requires.started c.ask_all.ensures.asked;
}
