use Rattle.tpcc_text.specs.Screens.{check_screen}
use Rattle.tpcc_text.proofs.screens.answers.consistent_screen.Goals as goal

pub returns : goal.returns
unfolding check_screen
returns c = c.of.ensures
