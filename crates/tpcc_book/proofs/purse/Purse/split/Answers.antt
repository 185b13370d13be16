use Rattle.std.proofs.Common.{rules}
use Rattle.tpcc_book.proofs.purse.Purse.split.Goals as goal

pub invariant_of-self-inside : goal.invariant_of-self-inside
invariant_of-self-inside g c = search rules

pub returns-clause-rest : goal.returns-clause-rest
returns-clause-rest g c = search rules
