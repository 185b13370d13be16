use Rattle.tpcc_text.specs.Screens.{payment_line}
use Rattle.tpcc_text.proofs.screens.payment.put_payment_line.Goals as goal

pub returns : goal.returns
unfolding payment_line
returns c = c.put_all.ensures
