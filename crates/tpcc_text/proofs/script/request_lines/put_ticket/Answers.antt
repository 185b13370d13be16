use Rattle.tpcc_text.specs.RequestLines.{delivery_line}
use Rattle.tpcc_text.proofs.script.request_lines.put_ticket.Goals as goal

pub returns : goal.returns
unfolding delivery_line
returns c = rw c.seconds.ensures.value at c.put_all.ensures
