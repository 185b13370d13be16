use Rattle.std.proofs.Common.{rules}
use Rattle.tpcc_run.proofs.threads.results.ThreadResults.without_memory.Goals as goal

pub returns-clause-told : goal.returns-clause-told
returns-clause-told g = search rules
