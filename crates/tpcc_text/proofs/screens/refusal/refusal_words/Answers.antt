use Rattle.std.proofs.Common.{rules}
use Rattle.tpcc_text.specs.Screens.{refused_screen}
use Rattle.tpcc_text.proofs.screens.refusal.refusal_words.Goals as goal

pub returns-in-Count : goal.returns-in-Count
unfolding refused_screen
returns-in-Count c = search rules
