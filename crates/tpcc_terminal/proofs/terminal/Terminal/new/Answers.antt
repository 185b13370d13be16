use Rattle.std.proofs.Common.{rules}
use Rattle.tpcc_terminal.proofs.terminal.Terminal.new.Goals as goal

pub returns : goal.returns
returns c = search rules
