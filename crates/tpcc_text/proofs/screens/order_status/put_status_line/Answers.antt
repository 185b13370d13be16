use Rattle.tpcc_text.specs.Screens.{status_line}
use Rattle.tpcc_text.proofs.screens.order_status.put_status_line.Goals as goal

pub returns : goal.returns
unfolding status_line
returns c = rw (c.bytes.ensures.bytes, c.bytes-2.ensures.bytes, c.bytes-3.ensures.bytes) at c.put_all.ensures
