use Rattle.tpcc_text.specs.Screens.{delivered_line}
use Rattle.tpcc_text.proofs.screens.delivery.put_delivered_line.Goals as goal

pub returns : goal.returns
unfolding delivered_line
returns c = c.put_all.ensures
