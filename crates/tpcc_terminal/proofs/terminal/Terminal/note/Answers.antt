use Rattle.std.proofs.Common.{rules}
use Rattle.tpcc_terminal.proofs.terminal.Terminal.note.Goals as goal

pub returns-clause-noted : goal.returns-clause-noted
returns-clause-noted g c = search rules
