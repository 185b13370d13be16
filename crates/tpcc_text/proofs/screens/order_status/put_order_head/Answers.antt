use Rattle.tpcc_text.specs.Screens.{order_head}
use Rattle.tpcc_text.proofs.screens.order_status.put_order_head.Goals as goal

pub returns : goal.returns
unfolding order_head
returns c = rw c.nullable_number.ensures at c.put_all.ensures
