use Rattle.std.proofs.Common.{rules}
use Rattle.tpcc_rows.proofs.values.text.Text.bytes.Goals as goal

pub returns-clause-bytes : goal.returns-clause-bytes
returns-clause-bytes g c = search rules

pub returns-clause-printable : goal.returns-clause-printable
returns-clause-printable g c = search rules

pub returns-clause-fits : goal.returns-clause-fits
returns-clause-fits g c = search rules
