use Rattle.tpcc_population.proofs.Sound.{plain_is_sound}
use Rattle.tpcc_population.proofs.opening.plain_is_sound.Goals as goal

pub returns : goal.returns
returns c = plain_is_sound c.args.scale c.customers.ensures.scale
