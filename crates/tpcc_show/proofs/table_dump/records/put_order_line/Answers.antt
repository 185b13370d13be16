use Rattle.tpcc_show.specs.Records.{order_line_record}
use Rattle.tpcc_show.proofs.table_dump.records.put_order_line.Goals as goal

pub returns : goal.returns
unfolding order_line_record
returns c = rw (c.nullable_moment.ensures, c.bytes.ensures.bytes) at c.set.ensures
