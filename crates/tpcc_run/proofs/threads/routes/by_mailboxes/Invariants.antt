use Rattle.std.proofs.Common.{◌≡◌, All, length}
use Rattle.tpcc_mailbox.specs.Tokens.{identity, idle_origin}
use Rattle.tpcc_run.proofs.threads.routes.by_mailboxes.Given as goal

abbrev pub invariant-loop-route : goal.invariant-loop-route
invariant-loop-route g l = All (λ idle. idle_origin idle ≡ identity l.mailboxes) l.idles.items

abbrev pub decreases-loop-route : goal.decreases-loop-route
decreases-loop-route g l = length l.idles.items
