use Rattle.std.proofs.Common.{rules}
use Rattle.tpcc_core.proofs.new_desk.make_seats.Goals as goal

pub loop-k-preserved : goal.loop-k-preserved
loop-k-preserved g c = search rules
