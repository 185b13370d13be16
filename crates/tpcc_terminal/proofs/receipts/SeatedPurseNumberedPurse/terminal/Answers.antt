use Rattle.std.proofs.Common.{rules}
use Rattle.tpcc_terminal.proofs.receipts.SeatedPurseNumberedPurse.terminal.Goals as goal

pub returns : goal.returns
returns g c = search rules
