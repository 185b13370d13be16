use Rattle.std.proofs.Common.{rules}
use Rattle.tpcc_book.proofs.register.Register.rise.Goals as goal

pub returns-clause-rise : goal.returns-clause-rise
returns-clause-rise c = search rules
