use Rattle.std.proofs.Common.{rules}
use Rattle.tpcc_population.proofs.scale.Scale.is_delivered.Goals as goal

pub returns : goal.returns
returns c = search rules
