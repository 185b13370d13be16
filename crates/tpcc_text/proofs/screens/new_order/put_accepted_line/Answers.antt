use Rattle.tpcc_text.specs.Screens.{accepted_line}
use Rattle.tpcc_text.proofs.screens.new_order.put_accepted_line.Goals as goal

pub returns : goal.returns
unfolding accepted_line
returns c = rw (c.bytes.ensures.bytes, c.bytes-2.ensures.bytes) at c.put_all.ensures
