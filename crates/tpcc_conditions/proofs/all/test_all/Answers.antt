use Rattle.std.proofs.Common.{rules}
use Rattle.tpcc_rows.specs.Conditions.{first_broken}
use Rattle.tpcc_conditions.proofs.all.test_all.Goals as goal

pub returns-clause-held : goal.returns-clause-held
unfolding first_broken
returns-clause-held c = search rules
