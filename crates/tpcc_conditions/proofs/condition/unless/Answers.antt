use Rattle.std.proofs.Common.{rules}
use Rattle.tpcc_conditions.proofs.condition.unless.Goals as goal

pub returns-else-keeps : goal.returns-else-keeps
returns-else-keeps c = search rules
