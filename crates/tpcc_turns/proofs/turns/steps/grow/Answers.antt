use Rattle.std.proofs.Common.{arith}
use mathlib.Core.Option.{none}
use Rattle.atomic_table.specs.Table.{step}
use Rattle.tpcc_turns.proofs.Grows.{grows}
use Rattle.tpcc_turns.proofs.turns.steps.grow.Goals as goal

pub load-requires : goal.load-requires
load-requires g c =
    let me = c.args.seat.now.me in
    let h = c.requires.grows in (
      c.requires.fits.0,
      omega (arith, c.requires.fits.1),
      grows c.args.board.now.key c.args.board.now.table_id.slots c.args.seat.now.id me.0 (step 0 0 0 0 none) h.number h.base h.book me.1 h.stage h.slot h.longer h.some_part,
    )

pub returns-clause-grown : goal.returns-clause-grown
returns-clause-grown g c = λ number base book stage slot. c.load.ensures.2 number base book stage slot
