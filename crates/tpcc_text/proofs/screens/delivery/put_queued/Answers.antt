use Rattle.tpcc_text.specs.Screens.{queued_screen}
use Rattle.tpcc_text.proofs.screens.delivery.put_queued.Goals as goal

pub returns : goal.returns
unfolding queued_screen
returns c = c.put_all.ensures
