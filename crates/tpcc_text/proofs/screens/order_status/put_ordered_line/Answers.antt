use Rattle.tpcc_text.specs.Screens.{ordered_line}
use Rattle.tpcc_text.proofs.screens.order_status.put_ordered_line.Goals as goal

pub returns : goal.returns
unfolding ordered_line
returns c = rw c.nullable_moment.ensures at c.put_all.ensures
