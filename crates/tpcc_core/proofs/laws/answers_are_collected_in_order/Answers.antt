use Rattle.tpcc_core.proofs.Ends.{served_is, collected_in_order}
use Rattle.tpcc_core.proofs.laws.answers_are_collected_in_order.Goals as goal

pub returns : goal.returns
returns c = record { order = collected_in_order; last = served_is }
