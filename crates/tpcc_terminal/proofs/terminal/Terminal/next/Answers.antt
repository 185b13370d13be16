use Rattle.std.proofs.Common.{rules}
use Rattle.tpcc_terminal.proofs.terminal.Terminal.next.Goals as goal

pub returns-clause-asked : goal.returns-clause-asked
returns-clause-asked c = search rules
