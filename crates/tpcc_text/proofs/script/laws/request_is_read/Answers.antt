use Rattle.tpcc_text.proofs.RequestLaws.{request_is_read}
use Rattle.tpcc_text.proofs.script.laws.request_is_read.Goals as goal

pub returns : goal.returns
returns c = request_is_read
