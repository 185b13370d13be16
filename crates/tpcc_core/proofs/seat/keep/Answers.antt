use Rattle.std.proofs.Common.{rules}
use Rattle.tpcc_core.proofs.seat.keep.Goals as goal

pub returns : goal.returns
returns c = search rules
