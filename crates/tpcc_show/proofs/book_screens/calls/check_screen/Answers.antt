use Rattle.std.proofs.Common.{rules}
use Rattle.tpcc_show.proofs.book_screens.calls.check_screen.Goals as goal

pub returns-in-Err : goal.returns-in-Err
returns-in-Err c = search rules
