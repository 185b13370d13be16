use Rattle.std.proofs.Common.{rules}
use Rattle.tpcc_run.proofs.threads.operator.Operator.into_parts.Goals as goal

pub returns-clause-receipts : goal.returns-clause-receipts
returns-clause-receipts g c = search rules
