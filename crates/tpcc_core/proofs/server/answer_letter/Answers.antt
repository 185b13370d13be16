use Rattle.std.proofs.Common.{rules}
use Rattle.tpcc_core.proofs.server.answer_letter.Goals as goal

pub returns : goal.returns
returns g c = search rules
