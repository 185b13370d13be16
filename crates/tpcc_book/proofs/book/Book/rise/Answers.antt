use Rattle.std.proofs.Common.{rules}
use Rattle.tpcc_book.proofs.book.Book.rise.Goals as goal

pub returns-clause-rise : goal.returns-clause-rise
returns-clause-rise g c = search rules
