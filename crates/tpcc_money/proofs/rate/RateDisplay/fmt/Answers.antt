use Rattle.tpcc_money.proofs.Digit.{padded_integral-zeros}
use Rattle.tpcc_money.proofs.rate.RateDisplay.fmt.Goals as goal

pub returns-clause-writes : goal.returns-clause-writes
returns-clause-writes g c = rw (c.laid_out.ensures, padded_integral-zeros 4 c.value.result, c.value.ensures.value) at c.write.ensures.writes
