use Rattle.tpcc_terminal.proofs.Standing.{served_stand, turned_stand}
use Rattle.tpcc_terminal.proofs.laws.receipts_stand.Goals as goal

pub returns : goal.returns
returns c = record { served = served_stand; turned = turned_stand }
