use Rattle.std.proofs.Common.{rules}
use Rattle.tpcc_rows.specs.ChosenCustomer.{chosen_customer}
use Rattle.tpcc_lookups.proofs.queries.choose_customer.Goals as goal

pub returns-in-Name : goal.returns-in-Name
unfolding chosen_customer
returns-in-Name c = search rules
