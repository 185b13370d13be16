use Rattle.std.proofs.Common.{rules}
use Rattle.tpcc_delivery.proofs.tickets.queue.Goals as goal

pub returns-clause-queued : goal.returns-clause-queued
returns-clause-queued c = search rules
