use Rattle.std.proofs.Common.{arith}
use Rattle.tpcc_turns.proofs.Draws.{draws}
use Rattle.tpcc_turns.proofs.turns.steps.draw.Goals as goal

pub fetch_add-requires : goal.fetch_add-requires
fetch_add-requires g c =
    let me = c.args.seat.now.me in
    (c.requires.fits.0, omega (arith, c.requires.fits.1), draws c.args.board.now.key c.args.board.now.table_id.slots c.args.seat.now.id me.0 me.1 _ c.requires.idle.0 c.requires.idle.1)
