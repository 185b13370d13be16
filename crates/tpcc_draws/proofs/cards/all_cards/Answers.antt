use Rattle.std.proofs.Common.{rules}
use Rattle.tpcc_draws.proofs.cards.all_cards.Goals as goal

pub returns : goal.returns
returns c = search rules
