use Rattle.std.proofs.Common.{rules}
use Rattle.tpcc_program.proofs.words.reading.in_range.Goals as goal

pub returns-clause-least : goal.returns-clause-least
returns-clause-least c = search rules
