use Rattle.tpcc_text.specs.Screens.{rolled_back_line}
use Rattle.tpcc_text.proofs.screens.new_order.put_rolled_back_line.Goals as goal

pub returns : goal.returns
unfolding rolled_back_line
returns c = rw (c.bytes.ensures.bytes, c.bytes-2.ensures.bytes) at c.put_all.ensures
