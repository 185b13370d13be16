use Rattle.tpcc_show.specs.Records.{customer_record}
use Rattle.tpcc_show.proofs.Record.{told}
use Rattle.tpcc_show.proofs.table_dump.records.put_customer.Goals as goal

pub returns : goal.returns
unfolding customer_record
returns c =
    told c.set.new.self _ (customer_record c.args.row.now) c.set.result
    (rw (c.bytes.ensures.bytes, c.bytes-2.ensures.bytes, c.bytes-3.ensures.bytes, c.bytes-4.ensures.bytes, c.bytes-5.ensures.bytes, c.bytes-6.ensures.bytes)) c.set.ensures
