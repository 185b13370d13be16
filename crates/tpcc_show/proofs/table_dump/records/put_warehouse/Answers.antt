use Rattle.tpcc_show.specs.Records.{warehouse_record}
use Rattle.tpcc_show.proofs.table_dump.records.put_warehouse.Goals as goal

pub returns : goal.returns
unfolding warehouse_record
returns c = rw c.bytes.ensures.bytes at c.set.ensures
