use Rattle.tpcc_text.specs.Screens.{level_screen}
use Rattle.tpcc_text.proofs.screens.stock_level.put_level.Goals as goal

pub returns : goal.returns
unfolding level_screen
returns c = c.put_all.ensures
