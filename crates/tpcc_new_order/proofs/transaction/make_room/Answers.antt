use Rattle.std.proofs.Common.{rules}
use Rattle.tpcc_new_order.proofs.transaction.make_room.Goals as goal

pub returns-in-Enter-clause-room : goal.returns-in-Enter-clause-room
returns-in-Enter-clause-room c = search rules
