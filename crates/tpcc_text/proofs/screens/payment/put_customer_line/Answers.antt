use Rattle.tpcc_text.specs.Screens.{customer_line}
use Rattle.tpcc_text.proofs.Chains.{told}
use Rattle.tpcc_text.proofs.screens.payment.put_customer_line.Goals as goal

pub returns : goal.returns
unfolding customer_line
returns c =
    told c.args.screen.now c.put_all.new.self _ (customer_line c.args.paid.now) c.put_all.result
    (rw (c.bytes.ensures.bytes, c.bytes-2.ensures.bytes, c.bytes-3.ensures.bytes, c.bytes-4.ensures.bytes, c.bytes-5.ensures.bytes)) c.put_all.ensures
