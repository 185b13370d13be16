use Rattle.tpcc_new_order.proofs.Preparations.{rolled_back_is}
use Rattle.tpcc_new_order.proofs.reply.replies.show_rollback.Goals as goal

pub returns : goal.returns
returns c = rolled_back_is c.args.tables.now.rows c.args.order.now c.named_rows-named.result c.named_rows-named.ensures
