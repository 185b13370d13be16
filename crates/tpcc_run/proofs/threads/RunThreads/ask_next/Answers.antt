use Rattle.tpcc_run.proofs.RequestOutcome.{asked_next}
use Rattle.tpcc_run.proofs.threads.RunThreads.ask_next.Goals as goal

pub returns-in-Ok-next_request : goal.returns-in-Ok-next_request
returns-in-Ok-next_request g c = record {
  asked = asked_next c.args.duty c.args.self.now.plan.moment c.args.operator c.in-Ok-next_request.request c.next_request.new.self c.ask_once.result
      c.in-Ok-next_request.ensures.purse c.in-Ok-next_request.ensures.next c.ask_once.ensures.answered;
}
