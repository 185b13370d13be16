use Rattle.tpcc_show.specs.Records.{history_record}
use Rattle.tpcc_show.proofs.table_dump.records.put_history.Goals as goal

pub returns : goal.returns
unfolding history_record
returns c = rw c.bytes.ensures.bytes at c.set.ensures
