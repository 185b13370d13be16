use Rattle.tpcc_core.proofs.Ends.{after_leads}
use Rattle.tpcc_core.proofs.Order.{answer_ready_in}
use Rattle.tpcc_core.proofs.laws.letters_are_apart.Goals as goal

pub returns : goal.returns
returns c = record {
  apart = λ opening terminals servers events desk after. (after_leads opening terminals servers events desk after).sound.ordered;
  answers = λ opening terminals servers events desk after server.
      answer_ready_in desk server (after_leads opening terminals servers events desk after).sound.ordered;
}
