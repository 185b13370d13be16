use Rattle.std.proofs.Common.{length}
use Rattle.tpcc_new_order.proofs.reply.brand.+has_original.Given as goal

abbrev pub decreases-has_original : goal.decreases-has_original
decreases-has_original l = length l.bytes.now
