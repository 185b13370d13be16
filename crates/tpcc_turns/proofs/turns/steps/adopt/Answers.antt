use Rattle.std.proofs.Common.{arith}
use Rattle.tpcc_turns.proofs.Shares.{joins}
use Rattle.tpcc_turns.proofs.turns.steps.adopt.Goals as goal

pub join_seat-requires : goal.join_seat-requires
join_seat-requires g c =
    let all = c.args.seat.now in
    let other = c.args.other in (
      c.requires.fits.0,
      c.requires.other.0,
      c.requires.other.2,
      omega (arith, c.requires.fits.1),
      joins c.args.board.now.key all.id all.me.0 other.id other.me.0 c.requires.other.1 c.requires.parts.0 c.requires.parts.1,
    )
