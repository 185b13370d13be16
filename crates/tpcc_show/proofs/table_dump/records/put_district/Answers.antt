use Rattle.tpcc_show.specs.Records.{district_record}
use Rattle.tpcc_show.proofs.table_dump.records.put_district.Goals as goal

pub returns : goal.returns
unfolding district_record
returns c = rw c.bytes.ensures.bytes at c.set.ensures
