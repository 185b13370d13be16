use Rattle.tpcc_conditions.proofs.Opening.{nothing_broken_there, none_broken_there}
use Rattle.tpcc_conditions.proofs.all.nothing_broken_at_opening.Goals as goal

pub returns : goal.returns
returns c = λ customers rows. (nothing_broken_there customers rows, none_broken_there customers rows)
