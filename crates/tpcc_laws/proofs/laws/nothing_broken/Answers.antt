use Rattle.tpcc_laws.proofs.Check.{nothing_broken, none_broken}
use Rattle.tpcc_laws.proofs.laws.nothing_broken.Goals as goal

pub returns : goal.returns
returns c = λ rows. (nothing_broken rows, none_broken rows)
