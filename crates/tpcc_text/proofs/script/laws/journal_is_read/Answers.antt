use Rattle.tpcc_text.proofs.RequestLaws.{journal_is_read}
use Rattle.tpcc_text.proofs.script.laws.journal_is_read.Goals as goal

pub returns : goal.returns
returns c = journal_is_read
