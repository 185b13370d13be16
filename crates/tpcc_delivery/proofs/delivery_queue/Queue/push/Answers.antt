use Rattle.std.proofs.Common.{subst, sym, List}
use Rattle.tpcc_rows.specs.declared.transactions.requests.QueuedTicket.{QueuedTicket}
use Rattle.tpcc_rows.specs.WellKeyed.{IsQueueInRange}
use Rattle.tpcc_delivery.proofs.Queues.{pushed_in_range}
use Rattle.tpcc_delivery.proofs.delivery_queue.Queue.push.Goals as goal

pub invariant_of-self : goal.invariant_of-self
invariant_of-self c =
    subst (λ (queue : List QueuedTicket). IsQueueInRange queue) (sym c.push_reserved.ensures.items)
    (pushed_in_range c.self.inside.tickets.items c.args.ticket c.self.invariant c.requires.carrier c.seconds.ensures.range)
