use Rattle.std.proofs.Common.{arith}
use mathlib.Core.Option.{none}
use Rattle.atomic_table.specs.Table.{step}
use Rattle.tpcc_turns.proofs.Ends.{ends}
use Rattle.tpcc_turns.proofs.turns.steps.end.Goals as goal

pub store-requires : goal.store-requires
store-requires g c =
    let me = c.args.seat.now.me in
    let h = c.requires.holds in (
      c.requires.fits.0,
      omega (arith, c.requires.fits.1),
      ends c.args.board.now.key c.args.board.now.table_id.slots c.args.seat.now.id me.0 (step 0 0 0 0 none) h.number h.base h.book c.args.next me.1 h.stage h.slot h.longer h.opening h.next_is,
    )
