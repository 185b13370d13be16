use Rattle.std.proofs.Common.{rules}
use Rattle.tpcc_rows.specs.Lookups.{stock_tests}
use Rattle.tpcc_lookups.proofs.queries.queried_district.Goals as goal

pub returns-clause-accepted : goal.returns-clause-accepted
unfolding stock_tests
returns-clause-accepted c = search rules
