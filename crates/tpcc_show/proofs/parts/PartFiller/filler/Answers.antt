use Rattle.std.proofs.Common.{rules}
use Rattle.tpcc_show.proofs.parts.PartFiller.filler.Goals as goal

pub returns : goal.returns
returns g = search rules
