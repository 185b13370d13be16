use Rattle.std.proofs.Common.{subst}
use Rattle.tpcc_rows.specs.Layout.{laid_out}
use Rattle.tpcc_population.specs.Seeded.{Seeding, seeded_rules}
use Rattle.tpcc_population.specs.Opening.{seeded_rows, IsSoundOpening}
use Rattle.tpcc_population.proofs.seeded.SeededRulesRowRules.is_sound.Goals as goal

pub returns : goal.returns
unfolding seeded_rows
returns c = subst (λ (g : Seeding). IsSoundOpening g.scale.customers (laid_out g.scale (seeded_rules g))) c.self.view_is c.seeded_is_sound.ensures
