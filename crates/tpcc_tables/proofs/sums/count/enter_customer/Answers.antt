use Rattle.std.proofs.Common.{[], ◌∷◌}
use Rattle.tpcc_laws.proofs.Remove.{found_passes}
use Rattle.tpcc_tables.specs.Internal.Sums.{has_key, customer_sums_key, is_delivered_sum}
use Rattle.tpcc_tables.proofs.sums.count.enter_customer.Goals as goal

pub change-requires-clause-fits : goal.change-requires-clause-fits
change-requires-clause-fits c = λ entry found. ((found_passes (has_key customer_sums_key (c.args.order.now.warehouse ∷ c.args.order.now.district ∷ c.args.order.now.customer ∷ [])) (λ s. is_delivered_sum s.delivered) c.args.entries.now.items entry found c.requires.room).1, c.requires.amount)
