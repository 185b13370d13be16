use Rattle.std.proofs.Common.{arith, refl, ◌+◌}
use Rattle.std.proofs.lemmas.Iterator.{items_from_collect, YieldsList-from_range}
use Rattle.tpcc_draws.proofs.stream.numbers_up_to.Goals as goal

pub returns : goal.returns
returns g c = items_from_collect c.collect.result c.collect.ensures.ran (YieldsList-from_range 1 (c.args.n + 1) c.args.n refl (omega arith))
