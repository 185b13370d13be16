use Rattle.tpcc_run.proofs.StandAfter.{stand_after}
use Rattle.tpcc_run.proofs.threads.operator.Operator.ask_once.Goals as goal

pub new-operator-requires : goal.new-operator-requires
new-operator-requires g c = record {
  receipts = stand_after c.receipts_stand.ensures.turned c.args.request c.self.inside.purse c.purse_of.result c.in-Some.answer c.self.inside.terminal c.note-noted.new.terminal c.note-noted.result
      c.in-Some.ensures.turned c.purse_of.ensures.purse c.self.invariant c.note-noted.ensures.noted c.note-noted.ensures.refused;
}
