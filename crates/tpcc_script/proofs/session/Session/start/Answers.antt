use Rattle.std.proofs.Common.{rules}
use Rattle.tpcc_script.proofs.session.Session.start.Goals as goal

pub invariant_of-result : goal.invariant_of-result
invariant_of-result g c = search rules
