use Rattle.std.proofs.Common.{rules}
use Rattle.tpcc_delivery.specs.Internal.Runs.{charge_tests}
use Rattle.tpcc_delivery.proofs.charge.order_refusal.Goals as goal

pub returns : goal.returns
unfolding charge_tests
returns c = search rules
