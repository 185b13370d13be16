use Rattle.tpcc_text.specs.RequestLines.{deliver_line}
use Rattle.tpcc_text.proofs.script.request_lines.put_deliver.Goals as goal

pub returns : goal.returns
unfolding deliver_line
returns c = rw c.seconds.ensures.value at c.put_all.ensures
