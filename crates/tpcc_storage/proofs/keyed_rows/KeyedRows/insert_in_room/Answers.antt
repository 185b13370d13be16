use Rattle.std.proofs.Common.{rules}
use Rattle.tpcc_storage.proofs.keyed_rows.KeyedRows.insert_in_room.Goals as goal

pub returns : goal.returns
returns g c = search rules
