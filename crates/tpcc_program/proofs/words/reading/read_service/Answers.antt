use Rattle.std.proofs.Common.{rules}
use Rattle.tpcc_program.proofs.words.reading.read_service.Goals as goal

pub returns-then-not-get_flag : goal.returns-then-not-get_flag
returns-then-not-get_flag c = search rules
