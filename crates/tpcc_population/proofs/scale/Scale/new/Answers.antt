use Rattle.std.proofs.Common.{rules}
use Rattle.tpcc_population.proofs.scale.Scale.new.Goals as goal

pub returns-then-warehouses-lt1-clause-ok : goal.returns-then-warehouses-lt1-clause-ok
returns-then-warehouses-lt1-clause-ok c = search rules

pub returns-then-warehouses-lt1-clause-items : goal.returns-then-warehouses-lt1-clause-items
returns-then-warehouses-lt1-clause-items c = search rules

pub returns-then-items-lt-LEAST_ITEMS-clause-ok : goal.returns-then-items-lt-LEAST_ITEMS-clause-ok
returns-then-items-lt-LEAST_ITEMS-clause-ok c = search rules

pub returns-clause-ok : goal.returns-clause-ok
returns-clause-ok c = search rules

pub returns-clause-warehouses : goal.returns-clause-warehouses
returns-clause-warehouses c = search rules

pub returns-clause-customers : goal.returns-clause-customers
returns-clause-customers c = search rules

pub returns-clause-items : goal.returns-clause-items
returns-clause-items c = search rules
