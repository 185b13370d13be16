use Rattle.std.proofs.Common.{rules, ap, ◌∙◌, sym, refl, None}
use Rattle.atomic_table.specs.Table.{rest}
use Rattle.tpcc_mailbox.specs.Tokens.{client_origin}
use Rattle.tpcc_mailbox.specs.Views.{Free, Client}
use Rattle.tpcc_mailbox.proofs.Joins.{returns, returns_none}
use Rattle.tpcc_mailbox.proofs.ending.gather.gather_client.Goals as goal

pub gather_seat-requires-clause-own : goal.gather_seat-requires-clause-own
gather_seat-requires-clause-own g c = (sym (ap client_origin c.in-Idle.is) ∙ c.requires.own.0, c.requires.own.1)

pub gather_seat-requires-clause-gives : goal.gather_seat-requires-clause-gives
gather_seat-requires-clause-gives g c = let it = c.in-Idle.idle in (
  returns (λ j a. g.A.Answers.fits (g.A.Answers.label j) a) _ _ _ _ (Client it.mailbox Free) it.mailbox None (ap (λ s. s.me.0.roles) it.free) (ap (λ s. s.me.1) it.free) refl (search rules),
  ap (λ s. rest s.me.1) it.free,
)

pub gather_seat-requires-in-Waiting-clause-own : goal.gather_seat-requires-in-Waiting-clause-own
gather_seat-requires-in-Waiting-clause-own g c = (sym (ap client_origin c.in-Waiting.is) ∙ c.requires.own.0, c.requires.own.1)

pub gather_seat-requires-in-Waiting-clause-gives : goal.gather_seat-requires-in-Waiting-clause-gives
gather_seat-requires-in-Waiting-clause-gives g c = let it = c.in-Waiting.waiting in (
  returns_none (λ j a. g.A.Answers.fits (g.A.Answers.label j) a) _ _ _ _ (ap (λ s. s.me.1) it.sent),
  ap (λ s. rest s.me.1) it.sent,
)
