use Rattle.std.proofs.Common.{rules}
use Rattle.tpcc_text.proofs.script.request_lines.customer_word.Goals as goal

pub returns-in-Name : goal.returns-in-Name
returns-in-Name c = search rules
