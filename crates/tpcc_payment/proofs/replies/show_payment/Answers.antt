use Rattle.std.proofs.Common.{rules}
use Rattle.tpcc_payment.proofs.replies.show_payment.Goals as goal

pub returns : goal.returns
returns c = search rules
