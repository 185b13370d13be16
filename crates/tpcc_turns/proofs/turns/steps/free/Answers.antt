use Rattle.std.proofs.Common.{arith}
use Rattle.tpcc_turns.proofs.Shares.{frees}
use Rattle.tpcc_turns.proofs.turns.steps.free.Goals as goal

pub split_seat-requires : goal.split_seat-requires
split_seat-requires g c =
    let seat = c.args.seat.now in
    (c.requires.fits.0, omega (arith, c.requires.fits.1), frees c.args.board.now.key seat.id seat.me.0 c.requires.parts.0 c.requires.parts.1)
