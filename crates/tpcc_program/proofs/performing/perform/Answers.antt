use Rattle.std.proofs.Common.{rules}
use Rattle.tpcc_program.proofs.performing.perform.Goals as goal

pub invariant_of-run : goal.invariant_of-run
invariant_of-run g c = search rules
