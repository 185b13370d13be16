use Rattle.std.proofs.Common.{ap, ◌∙◌}
use Rattle.tpcc_mailbox.proofs.Joins.{joins}
use Rattle.tpcc_mailbox.proofs.ending.gather.gather_seat.Goals as goal

pub join_seat-requires : goal.join_seat-requires
join_seat-requires g c = (
  c.requires.own.1,
  c.load.ensures.0 ∙ c.requires.own.0,
  ap (λ m. m.1) c.load.ensures.2 ∙ c.requires.gives.1,
  c.requires.words,
  joins (λ j a. g.A.Answers.fits (g.A.Answers.label j) a) _ _ _ _,
)
