use Rattle.std.proofs.Common.{rules}
use Rattle.tpcc_text.proofs.screens.Screen.bytes.Goals as goal

pub returns : goal.returns
returns c = search rules
