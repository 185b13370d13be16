use Rattle.std.proofs.Common.{rules}
use Rattle.tpcc_rows.specs.Delivery.{ticket_tests}
use Rattle.tpcc_delivery.proofs.tickets.ticket_refusal.Goals as goal

pub returns-else-len-ge-MOST_TICKETS-clause-refusal : goal.returns-else-len-ge-MOST_TICKETS-clause-refusal
unfolding ticket_tests
returns-else-len-ge-MOST_TICKETS-clause-refusal c = search rules
