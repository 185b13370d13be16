use Rattle.std.proofs.Common.{◌≡◌, ◌∙◌, ap, sym, arith}
use Rattle.tpcc_turns.specs.Knows.{Knows}
use Rattle.tpcc_turns.specs.Internal.Seats.{view_of}
use Rattle.tpcc_turns.proofs.Shares.{joins}
use Rattle.tpcc_turns.proofs.turns.gather.join.Goals as goal

pub join_seat-requires : goal.join_seat-requires
join_seat-requires g c =
    let all = c.args.seat.now in
    let other = c.into_seat-purse.result.1 in
    let is : other.me.0 ≡ view_of c.args.purse = ap (λ m. m.0) c.into_seat-purse.ensures.seat in (
      c.requires.name.1 ∙ sym c.requires.name.0,
      c.into_seat-purse.ensures.table ∙ sym c.requires.name.0,
      ap (λ m. m.1) c.into_seat-purse.ensures.seat,
      omega (arith, c.requires.words),
      joins c.args.board.now.key all.id all.me.0 other.id other.me.0 (ap (λ (v : Knows). v.stage) is) c.requires.idle.1 (omega (arith, ap (λ (v : Knows). v.parts) is)),
    )
