use Rattle.std.proofs.Common.{rules}
use Rattle.tpcc_draws.proofs.names.last_name.Goals as goal

pub returns : goal.returns
returns c = search rules
