use Rattle.std.proofs.Common.{rules}
use Rattle.tpcc_show.proofs.parts.Part.name.Goals as goal

pub returns-in-Journal : goal.returns-in-Journal
returns-in-Journal c = search rules
