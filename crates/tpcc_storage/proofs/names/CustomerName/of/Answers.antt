use Rattle.std.proofs.Common.{rules}
use Rattle.tpcc_storage.proofs.names.CustomerName.of.Goals as goal

pub returns : goal.returns
returns c = search rules
