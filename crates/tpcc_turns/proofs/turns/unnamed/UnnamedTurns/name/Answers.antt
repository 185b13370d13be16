use Rattle.std.proofs.Common.{rules}
use Rattle.tpcc_turns.proofs.turns.unnamed.UnnamedTurns.name.Goals as goal

pub seated-requires-clause-idle : goal.seated-requires-clause-idle
seated-requires-clause-idle g c = search rules

pub returns-clause-purse : goal.returns-clause-purse
returns-clause-purse g c = search rules
