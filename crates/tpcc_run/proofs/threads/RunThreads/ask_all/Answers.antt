use Rattle.std.proofs.Common.{rules}
use Rattle.tpcc_run.proofs.RequestOutcome.{asked_more, asked_end}
use Rattle.tpcc_run.proofs.threads.RunThreads.ask_all.Goals as goal

pub returns-in-Answered : goal.returns-in-Answered
returns-in-Answered g c = record {
  asked = asked_end c.args.most c.loop.counter c.args.duty c.args.self.now.plan.moment c.args.operator c.loop.operator c.in-Answered.last c.goes_on.result
      (search rules) c.goes_on.ensures.endless c.loop.invariant.asked c.in-Answered.ensures.asked;
}

pub loop-preserved : goal.loop-preserved
loop-preserved g c = record {
  asked = asked_more c.loop.counter c.args.duty c.args.self.now.plan.moment c.args.operator c.loop.operator c.in-Answered.last c.loop.invariant.asked c.in-Answered.ensures.asked;
}
