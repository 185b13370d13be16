use Rattle.std.proofs.Common.{rules}
use Rattle.tpcc_draws.proofs.stream.Stream.nurand.Goals as goal

pub returns-clause-least : goal.returns-clause-least
returns-clause-least c = search rules

pub returns-clause-most : goal.returns-clause-most
returns-clause-most c = search rules

pub returns-clause-drawn : goal.returns-clause-drawn
returns-clause-drawn c = search rules
