use Rattle.tpcc_core.proofs.Sums.{purses_add_up}
use Rattle.tpcc_core.proofs.laws.purses_add_up.Goals as goal

pub returns : goal.returns
returns c = λ terminals servers events desk after.
    purses_add_up c.args.opening terminals servers events desk after (c.book_is_kept.ensures.kept terminals servers events desk after)
