use Rattle.std.proofs.Common.{take}
use Rattle.tpcc_text.specs.Internal.Adding.{Adds}
use Rattle.tpcc_text.specs.Internal.Pieces.{pieces_text}
use Rattle.tpcc_text.proofs.screens.Screen.put_all.Given as goal

abbrev pub invariant-loop-piece : goal.invariant-loop-piece
invariant-loop-piece l = Adds l.fn.self l.self (pieces_text (take l.piece-index l.pieces))
