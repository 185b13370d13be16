use Rattle.std.proofs.Common.{rules}
use Rattle.tpcc_audit.proofs.reporting.report.Goals as goal

pub returns-in-Ok : goal.returns-in-Ok
returns-in-Ok g c = search rules
