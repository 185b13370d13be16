use Rattle.std.proofs.Common.{rules}
use Rattle.tpcc_program.proofs.progress.Progress.line.Goals as goal

pub returns : goal.returns
returns c = search rules
