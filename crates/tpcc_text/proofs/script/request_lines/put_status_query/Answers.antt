use Rattle.tpcc_text.specs.RequestLines.{status_line}
use Rattle.tpcc_text.proofs.script.request_lines.put_status_query.Goals as goal

pub returns : goal.returns
unfolding status_line
returns c = rw c.customer_word.ensures at c.put_all.ensures
