use Rattle.std.proofs.Common.{rules}
use Rattle.tpcc_run.proofs.Reported.{report_of_totals}
use Rattle.tpcc_run.proofs.runs.run.Goals as goal

pub returns : goal.returns
returns g c = search (rules, report_of_totals)
