use Rattle.std.proofs.Common.{◌∙◌, ap, sym}
use Rattle.tpcc_book.specs.Purses.{pool_of}
use Rattle.tpcc_book.proofs.Gathers.{popped_is}
use Rattle.tpcc_turns.proofs.Joins.{first_joined, one_more_joined}
use Rattle.tpcc_turns.proofs.turns.gather.join_all.Goals as goal

pub loop-next-init : goal.loop-next-init
loop-next-init g c =
    let pool = c.of-pool.ensures.pool ∙ ap pool_of c.into_seat-purse.ensures.purse in
    let rest = popped_is c.args.purses.items c.pop.new.self.items c.pop.result c.in-Some.last c.pop.ensures.items c.in-Some.is in (
      c.into_seat-purse.ensures.table ∙ sym c.requires.name,
      first_joined c.args.purses.items c.pop.new.self.items c.of-pool.result c.into_seat-purse.result.1.me.0 c.in-Some.last rest pool (ap (λ m. m.0) c.into_seat-purse.ensures.seat),
    )

pub loop-next-preserved : goal.loop-next-preserved
loop-next-preserved g c =
    let l = c.loop-next in
    let pop = c.pop-in-loop-next in
    let next = c.in-Some-pop.next in (
      c.join.ensures.same ∙ l.invariant.0,
      one_more_joined c.args.purses.items l.rest.items pop.new.self.items l.pool c.join.new.pool l.seat.me.0 c.join.new.seat.me.0 next l.invariant.1 (popped_is l.rest.items pop.new.self.items pop.result next pop.ensures.items c.in-Some-pop.is) c.join.ensures.pool c.join.ensures.seat,
    )
