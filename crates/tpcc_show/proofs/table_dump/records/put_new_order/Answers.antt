use Rattle.tpcc_show.specs.Records.{new_order_record}
use Rattle.tpcc_show.proofs.table_dump.records.put_new_order.Goals as goal

pub returns : goal.returns
unfolding new_order_record
returns c = c.set.ensures
