use Rattle.std.proofs.Common.{rules}
use Rattle.tpcc_draws.proofs.stream.Stream.n_string.Goals as goal

pub returns-clause-drawn : goal.returns-clause-drawn
returns-clause-drawn g c = search rules

pub returns-clause-least : goal.returns-clause-least
returns-clause-least g c = search rules

pub returns-clause-most : goal.returns-clause-most
returns-clause-most g c = search rules
