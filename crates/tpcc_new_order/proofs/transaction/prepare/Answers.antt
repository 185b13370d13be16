use Rattle.tpcc_new_order.proofs.Preparations.{few_lines}
use Rattle.tpcc_new_order.proofs.transaction.prepare.Goals as goal

pub make_room-requires : goal.make_room-requires
make_room-requires c = record { few = few_lines c.args.tables.now.rows c.args.order.now c.in_ok-prepared.ensures.accepted }
