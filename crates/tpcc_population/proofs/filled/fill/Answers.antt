use Rattle.std.proofs.Common.{rules}
use Rattle.tpcc_rows.specs.Opening.{plain_rows}
use Rattle.tpcc_population.specs.Opening.{seeded_rows}
use Rattle.tpcc_population.proofs.filled.fill.Goals as goal

pub returns-in-Plain : goal.returns-in-Plain
unfolding plain_rows
returns-in-Plain c = search rules

pub returns-in-Seeded : goal.returns-in-Seeded
unfolding seeded_rows
returns-in-Seeded c = search rules
