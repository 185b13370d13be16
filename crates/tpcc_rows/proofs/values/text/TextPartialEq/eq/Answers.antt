use Rattle.std.proofs.Common.{rules}
use Rattle.tpcc_rows.proofs.values.text.TextPartialEq.eq.Goals as goal

pub returns : goal.returns
returns g c = search rules
