use Rattle.tpcc_theorems.proofs.Letters.{drawn_by_letters, opening_by_letters}
use Rattle.tpcc_theorems.proofs.replayed_scripts.names_are_letters.Goals as goal

pub returns-clause-openings : goal.returns-clause-openings
returns-clause-openings c = opening_by_letters

pub returns-clause-terminals : goal.returns-clause-terminals
returns-clause-terminals c = drawn_by_letters
