use Rattle.std.proofs.Common.{Some}
use Rattle.tpcc_turns.proofs.Serves.{in_slot}
use Rattle.tpcc_turns.proofs.turns.steps.serve.Goals as goal

pub slot_mut-requires : goal.slot_mut-requires
slot_mut-requires g c = (c.requires.fits, (Some c.requires.has.0, in_slot c.args.seat.now.me.1 c.requires.has.0 c.requires.has.1))
