use Rattle.std.proofs.Common.{rules}
use Rattle.tpcc_tables.proofs.tables.Tables.district_counts.Goals as goal

pub returns-clause-orders : goal.returns-clause-orders
returns-clause-orders c = search rules

pub returns-clause-new_orders : goal.returns-clause-new_orders
returns-clause-new_orders c = search rules

pub returns-clause-newest_order : goal.returns-clause-newest_order
returns-clause-newest_order c = search rules

pub returns-clause-newest_new : goal.returns-clause-newest_new
returns-clause-newest_new c = search rules
