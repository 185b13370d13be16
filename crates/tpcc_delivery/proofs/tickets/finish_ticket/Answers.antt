use Rattle.std.proofs.Common.{rules}
use Rattle.tpcc_delivery.proofs.tickets.finish_ticket.Goals as goal

pub returns : goal.returns
returns c = search rules
