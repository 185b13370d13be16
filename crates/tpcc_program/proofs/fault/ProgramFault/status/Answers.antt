use Rattle.std.proofs.Common.{rules}
use Rattle.tpcc_program.proofs.fault.ProgramFault.status.Goals as goal

pub returns-in-Write : goal.returns-in-Write
returns-in-Write c = search rules
