use Rattle.std.proofs.Common.{rules}
use Rattle.tpcc_draws.specs.Draws.{between}
use Rattle.tpcc_draws.proofs.stream.Stream.between.Goals as goal

pub returns-clause-drawn : goal.returns-clause-drawn
unfolding between
returns-clause-drawn c = search rules
