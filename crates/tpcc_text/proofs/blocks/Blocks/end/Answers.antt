use Rattle.std.proofs.Common.{rules}
use Rattle.tpcc_text.proofs.blocks.Blocks.end.Goals as goal

pub returns-clause-none : goal.returns-clause-none
returns-clause-none g c = search rules
