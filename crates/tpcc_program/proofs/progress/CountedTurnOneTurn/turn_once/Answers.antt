use Rattle.std.proofs.Common.{rules}
use Rattle.tpcc_program.proofs.progress.CountedTurnOneTurn.turn_once.Goals as goal

pub returns : goal.returns
returns g c = search rules
