use Rattle.std.proofs.Common.{[], ◌∷◌}
use Rattle.tpcc_laws.proofs.Remove.{found_passes}
use Rattle.tpcc_tables.specs.Internal.Sums.{has_key, district_sums_key, is_lines_sum}
use Rattle.tpcc_tables.proofs.sums.count.enter_district.Goals as goal

pub change-requires-clause-fits : goal.change-requires-clause-fits
change-requires-clause-fits c = λ entry found. ((found_passes (has_key district_sums_key (c.args.warehouse ∷ c.args.district ∷ [])) (λ s. is_lines_sum s.counted_lines) c.args.entries.now.items entry found c.requires.room).1, c.requires.lines)
