use Rattle.std.proofs.Common.{rules}
use Rattle.tpcc_program.proofs.timing.Timing.times.Goals as goal

pub returns : goal.returns
returns g c = search rules
