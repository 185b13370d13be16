use Rattle.std.proofs.Common.{rules}
use Rattle.tpcc_show.proofs.book_screens.calls.results_screen.Goals as goal

pub returns : goal.returns
returns c = search rules
