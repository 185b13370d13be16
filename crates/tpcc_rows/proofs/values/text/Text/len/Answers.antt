use Rattle.std.proofs.Common.{rules}
use Rattle.tpcc_rows.proofs.values.text.Text.len.Goals as goal

pub returns-clause-length : goal.returns-clause-length
returns-clause-length g c = search rules

pub returns-clause-fits : goal.returns-clause-fits
returns-clause-fits g c = search rules
