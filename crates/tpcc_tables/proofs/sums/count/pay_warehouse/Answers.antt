use Rattle.std.proofs.Common.{[], ◌∷◌}
use Rattle.tpcc_laws.proofs.Remove.{found_passes}
use Rattle.tpcc_tables.specs.Internal.Sums.{has_key, warehouse_sums_key, is_payments_sum}
use Rattle.tpcc_tables.proofs.sums.count.pay_warehouse.Goals as goal

pub change-requires-clause-fits : goal.change-requires-clause-fits
change-requires-clause-fits c = λ entry found. (found_passes (has_key warehouse_sums_key (c.args.warehouse ∷ [])) (λ s. is_payments_sum s.paid) c.args.entries.now.items entry found c.requires.room).1
