use Rattle.std.proofs.Common.{rules}
use Rattle.tpcc_population.proofs.scale.Scale.items.Goals as goal

pub returns-clause-value : goal.returns-clause-value
returns-clause-value c = search rules

pub returns-clause-scale : goal.returns-clause-scale
returns-clause-scale c = search rules
