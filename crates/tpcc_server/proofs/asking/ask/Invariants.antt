use Rattle.std.proofs.Common.{◌≡◌}
use Rattle.tpcc_mailbox.specs.Tokens.{identity, idle_mailbox, waiting_origin, waiting_mailbox, waiting_letter}
use Rattle.tpcc_server.proofs.asking.ask.Given as goal

abbrev pub invariant-loop : goal.invariant-loop
invariant-loop g l = (waiting_origin l.waiting ≡ identity l.mailboxes) × (waiting_mailbox l.waiting ≡ idle_mailbox l.fn.idle) × (waiting_letter l.waiting ≡ l.fn.job)
