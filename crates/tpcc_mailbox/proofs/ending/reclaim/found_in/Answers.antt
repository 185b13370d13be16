use Rattle.std.proofs.Common.{rules}
use Rattle.tpcc_mailbox.proofs.ending.reclaim.found_in.Goals as goal

pub returns-then-word-eq-TAKEN : goal.returns-then-word-eq-TAKEN
returns-then-word-eq-TAKEN g c = search rules
