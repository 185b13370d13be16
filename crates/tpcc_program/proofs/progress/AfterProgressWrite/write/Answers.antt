use Rattle.std.proofs.Common.{rules}
use Rattle.tpcc_program.proofs.progress.AfterProgressWrite.write.Goals as goal

pub returns-clause-bytes : goal.returns-clause-bytes
returns-clause-bytes g c = search rules
