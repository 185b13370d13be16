use Rattle.tpcc_show.specs.Records.{stock_record}
use Rattle.tpcc_show.proofs.table_dump.records.put_stock.Goals as goal

pub returns : goal.returns
unfolding stock_record
returns c = rw (c.as_slice.ensures, c.bytes.ensures.bytes) at c.set.ensures
