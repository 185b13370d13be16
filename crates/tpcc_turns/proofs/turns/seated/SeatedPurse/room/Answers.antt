use Rattle.std.proofs.Common.{rules}
use Rattle.tpcc_turns.proofs.turns.seated.SeatedPurse.room.Goals as goal

pub returns : goal.returns
returns g c = search rules
