use Rattle.tpcc_text.specs.RequestLines.{payment_line}
use Rattle.tpcc_text.proofs.Chains.{told}
use Rattle.tpcc_text.proofs.script.request_lines.put_payment.Goals as goal

pub returns : goal.returns
unfolding payment_line
returns c =
    told c.args.screen.now c.put_all.new.self _ (payment_line c.args.payment.now) c.put_all.result
    (rw (c.customer_word.ensures, c.seconds.ensures.value)) c.put_all.ensures
