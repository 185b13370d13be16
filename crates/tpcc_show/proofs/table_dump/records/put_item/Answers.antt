use Rattle.tpcc_show.specs.Records.{item_record}
use Rattle.tpcc_show.proofs.table_dump.records.put_item.Goals as goal

pub returns : goal.returns
unfolding item_record
returns c = rw (c.bytes.ensures.bytes, c.bytes-2.ensures.bytes) at c.set.ensures
