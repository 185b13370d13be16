use Rattle.tpcc_book.proofs.Gathers.{popped_is, first_pooled, one_more_pooled}
use Rattle.tpcc_book.proofs.book.Book.gather.Goals as goal

pub loop-purse-init : goal.loop-purse-init
loop-purse-init g c =
    first_pooled c.args.purses.items c.pop.new.self.items c.of-pool.result c.in-Some.first (popped_is c.args.purses.items c.pop.new.self.items c.pop.result c.in-Some.first c.pop.ensures.items c.in-Some.is) c.of-pool.ensures.pool

pub loop-purse-preserved : goal.loop-purse-preserved
loop-purse-preserved g c =
    let l = c.loop-purse in
    let pop = c.pop-in-loop-purse in
    one_more_pooled c.args.purses.items l.rest.items pop.new.self.items l.pool c.take_in.new.self c.in-Some-pop.purse l.invariant (popped_is l.rest.items pop.new.self.items pop.result c.in-Some-pop.purse pop.ensures.items c.in-Some-pop.is) c.take_in.ensures.pool
