use Rattle.std.proofs.Common.{rules}
use Rattle.tpcc_storage.proofs.keyed_rows.KeyedRows.with_room.Goals as goal

pub returns-clause-room : goal.returns-clause-room
returns-clause-room g c = search rules
