use Rattle.std.proofs.Common.{arith}
use Rattle.tpcc_run.proofs.threads.results.ThreadResults.note_started.Goals as goal

pub returns-else-started-wanted-clause-noted : goal.returns-else-started-wanted-clause-noted
returns-else-started-wanted-clause-noted g c = λ less. absurd (omega (arith, less, c.if-started-wanted.false))
