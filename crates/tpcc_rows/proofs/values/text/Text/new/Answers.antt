use Rattle.std.proofs.Common.{rules}
use Rattle.tpcc_rows.proofs.values.text.Text.new.Goals as goal

pub returns-clause-ok : goal.returns-clause-ok
returns-clause-ok g c = search rules

pub returns-clause-too_long : goal.returns-clause-too_long
returns-clause-too_long g c = search rules
