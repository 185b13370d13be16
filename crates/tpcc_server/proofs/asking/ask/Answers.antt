use Rattle.std.proofs.Common.{rules, ap, ◌∙◌}
use Rattle.tpcc_mailbox.specs.Tokens.{waiting_origin, waiting_mailbox, waiting_letter}
use Rattle.tpcc_server.proofs.asking.ask.Goals.{in-None, in-Some+in-Err+then-seen_closed}
use Rattle.tpcc_server.proofs.asking.ask.Goals as goal

pub collect-requires : goal.collect-requires
collect-requires g c = record { origin = c.loop.invariant.0 }

pub returns-in-Ok-clause-fits : goal.returns-in-Ok-clause-fits
returns-in-Ok-clause-fits g c = rw c.loop.invariant.2 at c.in-Ok.ensures.fits

pub returns-in-Ok-clause-origin : goal.returns-in-Ok-clause-origin
returns-in-Ok-clause-origin g c = c.in-Ok.ensures.origin ∙ c.loop.invariant.0

pub returns-in-Ok-clause-mailbox : goal.returns-in-Ok-clause-mailbox
returns-in-Ok-clause-mailbox g c = c.in-Ok.ensures.mailbox ∙ c.loop.invariant.1

pub seen_closed-requires : goal.seen_closed-requires
seen_closed-requires g c = record { origin = ap waiting_origin c.in-Err.ensures.back ∙ c.loop.invariant.0 }

pub loop-preserved : goal.loop-preserved
loop-preserved g c = (
  c.seen_closed.ensures.origin ∙ ap waiting_origin c.in-Err.ensures.back ∙ c.loop.invariant.0,
  c.seen_closed.ensures.mailbox ∙ ap waiting_mailbox c.in-Err.ensures.back ∙ c.loop.invariant.1,
  c.seen_closed.ensures.letter ∙ ap waiting_letter c.in-Err.ensures.back ∙ c.loop.invariant.2,
)

pub returns-clause-closed : goal.returns-clause-closed
returns-clause-closed g c = search rules

pub returns-clause-letter : goal.returns-clause-letter
returns-clause-letter g c = elim c.match-next.branch [
  | in-None w ↦ ap waiting_letter w.waiting-is ∙ c.loop.invariant.2
  | in-Some+in-Err+then-seen_closed w ↦ ap waiting_letter w.waiting-is ∙ w.seen_closed.ensures.letter ∙ ap waiting_letter w.in-Err.ensures.back ∙ c.loop.invariant.2
]

pub returns-clause-same : goal.returns-clause-same
returns-clause-same g c = elim c.match-next.branch [
  | in-None w ↦ (ap waiting_origin w.waiting-is ∙ c.loop.invariant.0, ap waiting_mailbox w.waiting-is ∙ c.loop.invariant.1)
  | in-Some+in-Err+then-seen_closed w ↦ (
    ap waiting_origin w.waiting-is ∙ w.seen_closed.ensures.origin ∙ ap waiting_origin w.in-Err.ensures.back ∙ c.loop.invariant.0,
    ap waiting_mailbox w.waiting-is ∙ w.seen_closed.ensures.mailbox ∙ ap waiting_mailbox w.in-Err.ensures.back ∙ c.loop.invariant.1,
  )
]

pub loop-init : goal.loop-init
loop-init g c = (c.post-waiting.ensures.origin ∙ c.requires.origin, c.post-waiting.ensures.mailbox, c.post-waiting.ensures.letter)
