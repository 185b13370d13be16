use Rattle.std.proofs.Common.{arith}
use Rattle.tpcc_population.specs.Seeded.{Seeding}
use Rattle.tpcc_population.proofs.Sound.{seeded_is_sound}
use Rattle.tpcc_population.proofs.opening.seeded_is_sound.Goals as goal

pub returns : goal.returns
returns c =
    let g : Seeding = record { scale = c.args.scale; seed = c.args.seed; moment = c.args.moment } in
    seeded_is_sound g c.customers.ensures.scale (omega arith)
