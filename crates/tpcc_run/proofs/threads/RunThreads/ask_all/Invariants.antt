use Rattle.tpcc_run.specs.Asking.{HasAsked}
use Rattle.tpcc_run.proofs.threads.RunThreads.ask_all.Given as goal

abbrev pub invariant-loop : goal.invariant-loop
invariant-loop g l = record {
  asked : HasAsked l.counter l.duty l.self.plan.moment l.fn.operator l.operator;
}
