use Rattle.std.proofs.Common.{rules}
use Rattle.tpcc_delivery.proofs.delivery_queue.Queue.reserve.Goals as goal

pub returns-clause-room : goal.returns-clause-room
returns-clause-room c = search rules
