use Rattle.tpcc_text.specs.Screens.{district_line}
use Rattle.tpcc_text.proofs.screens.delivery.put_district_line.Goals as goal

pub returns : goal.returns
unfolding district_line
returns c = rw c.delivered_order.ensures at c.put_all.ensures
