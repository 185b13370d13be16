use Rattle.tpcc_show.specs.Records.{order_record}
use Rattle.tpcc_show.proofs.table_dump.records.put_order.Goals as goal

pub returns : goal.returns
unfolding order_record
returns c = rw (c.nullable_number.ensures, c.flag.ensures) at c.set.ensures
