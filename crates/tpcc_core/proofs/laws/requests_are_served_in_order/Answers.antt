use Rattle.tpcc_core.proofs.Ends.{posted_is, served_in_order}
use Rattle.tpcc_core.proofs.laws.requests_are_served_in_order.Goals as goal

pub returns : goal.returns
returns c = record { order = served_in_order; last = posted_is }
