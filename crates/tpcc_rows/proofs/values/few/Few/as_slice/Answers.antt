use Rattle.std.proofs.Common.{rules}
use Rattle.tpcc_rows.proofs.values.few.Few.as_slice.Goals as goal

pub returns : goal.returns
returns g c = search rules
