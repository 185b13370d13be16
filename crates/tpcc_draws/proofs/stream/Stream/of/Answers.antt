use Rattle.std.proofs.Common.{rules}
use Rattle.tpcc_draws.proofs.stream.Stream.of.Goals as goal

pub returns : goal.returns
returns c = search rules
