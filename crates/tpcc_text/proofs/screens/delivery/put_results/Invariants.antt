use Rattle.std.proofs.Common.{take}
use Rattle.std.specs.Prelude.{flat_map}
use Rattle.tpcc_text.specs.Internal.Adding.{Adds}
use Rattle.tpcc_text.specs.Screens.{ticket_screen}
use Rattle.tpcc_text.proofs.screens.delivery.put_results.Given as goal

abbrev pub invariant-loop-ticket : goal.invariant-loop-ticket
invariant-loop-ticket l = Adds l.fn.screen l.screen (flat_map ticket_screen (take l.ticket-index l.tickets))
