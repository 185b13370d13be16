use Rattle.tpcc_book.specs.Internal.Pooling.{AreAll}
use Rattle.tpcc_book.proofs.book.Book.gather.Given as goal

abbrev pub invariant-loop-purse : goal.invariant-loop-purse
invariant-loop-purse g l = AreAll l.fn.purses.items l.pool l.rest.items

abbrev pub decreases-loop-purse : goal.decreases-loop-purse
decreases-loop-purse g l = goal.left-loop-purse g l
