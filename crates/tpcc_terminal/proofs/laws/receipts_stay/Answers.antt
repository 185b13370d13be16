use Rattle.tpcc_terminal.proofs.Standing.{stay}
use Rattle.tpcc_terminal.proofs.laws.receipts_stay.Goals as goal

pub returns : goal.returns
returns c = stay
