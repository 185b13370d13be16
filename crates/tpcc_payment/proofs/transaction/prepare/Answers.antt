use Rattle.std.proofs.Common.{rules}
use Rattle.tpcc_payment.proofs.transaction.prepare.Goals as goal

pub returns-clause-room : goal.returns-clause-room
returns-clause-room c = search rules
