use Rattle.tpcc_text.specs.RequestLines.{stock_line}
use Rattle.tpcc_text.proofs.script.request_lines.put_stock_query.Goals as goal

pub returns : goal.returns
unfolding stock_line
returns c = c.put_all.ensures
