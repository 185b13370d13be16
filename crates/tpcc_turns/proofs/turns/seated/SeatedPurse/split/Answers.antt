use Rattle.std.proofs.Common.{rules, pos, ◌≡◌, ◌+◌, ◌<◌, [], ◌∙◌, ap, sym, arith}
use Rattle.tpcc_turns.specs.Knows.{Knows, Idle}
use Rattle.tpcc_turns.specs.Knows.{knows}
use Rattle.tpcc_turns.specs.Seats.{SeatedView}
use Rattle.tpcc_turns.specs.Internal.Seats.{start_of, front_of}
use Rattle.tpcc_turns.proofs.Shares.{splits, alone}
use Rattle.tpcc_turns.proofs.turns.seated.SeatedPurse.split.Goals as goal

pub split_seat-given-requires : goal.split_seat-given-requires
split_seat-given-requires g c =
    let me = c.into_seat-seat.result.me in
    let views = c.self.inside.badge.views in
    let is : me.0 ≡ knows (start_of views) (front_of views) (c.self.inside.purse.room + 1) Idle [] = alone me.0 _ (sym c.into_seat-seat.ensures.2 ∙ (ap (λ b. b.views) c.replace-badge.ensures.value ∙ c.self.invariant.1)) in
    let room = ap (λ (p : SeatedView). p.purse.room) c.self.view_is in
    let some : 1 < me.0.parts = omega (arith, ap (λ (v : Knows). v.parts) is, room, c.requires) in (
      c.into_seat-seat.ensures.0 ∙ (ap (λ b. b.table_id) c.replace-badge.ensures.value ∙ (c.self.invariant.0 ∙ sym c.turns.invariant.named)),
      omega (arith, c.turns.invariant.words),
      splits c.turns.inside.table.shared.key c.into_seat-seat.result.id me.0 (ap (λ (v : Knows). v.stage) is) some,
    )

pub returns-clause-new : goal.returns-clause-new
returns-clause-new g c =
    let new : c.split.result ≡ record { terminal = c.args.terminal; entries = 0; paid = pos 0; room = 0 } = c.split.ensures.new in
    search rules
