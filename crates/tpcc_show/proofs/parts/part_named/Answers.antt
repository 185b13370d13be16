use Rattle.std.proofs.Common.{rules}
use Rattle.tpcc_show.proofs.parts.part_named.Goals as goal

pub returns-in-None-clause-unknown : goal.returns-in-None-clause-unknown
returns-in-None-clause-unknown c = search rules
