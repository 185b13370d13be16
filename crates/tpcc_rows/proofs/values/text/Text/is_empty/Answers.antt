use Rattle.std.proofs.Common.{arith}
use Rattle.std.proofs.lemmas.Grind.{common_steps}
use Rattle.tpcc_rows.proofs.values.text.Text.is_empty.Goals as goal

pub returns : goal.returns
returns g c = grind (arith, common_steps)
