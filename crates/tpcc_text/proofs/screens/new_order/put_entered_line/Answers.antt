use Rattle.tpcc_text.specs.Screens.{entered_line}
use Rattle.tpcc_text.proofs.screens.new_order.put_entered_line.Goals as goal

pub returns : goal.returns
unfolding entered_line
returns c = rw (c.bytes.ensures.bytes, c.brand_text.ensures) at c.put_all.ensures
