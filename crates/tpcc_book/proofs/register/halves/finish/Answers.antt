use Rattle.std.proofs.Common.{ap, sym}
use Rattle.tpcc_rows.specs.Turn.{reply_to}
use Rattle.tpcc_book.specs.Internal.Ready.{state_of}
use Rattle.tpcc_book.proofs.register.halves.finish.Goals as goal

pub returns-in-Delivery-clause-reply : goal.returns-in-Delivery-clause-reply
unfolding reply_to
returns-in-Delivery-clause-reply c =
    ap (reply_to (state_of c.args.tables.now c.args.queue.now)) (sym c.in-Delivery.is)
