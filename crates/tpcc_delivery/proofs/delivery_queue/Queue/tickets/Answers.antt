use Rattle.std.proofs.Common.{rules}
use Rattle.tpcc_delivery.proofs.delivery_queue.Queue.tickets.Goals as goal

pub returns : goal.returns
returns c = search rules
