use Rattle.std.proofs.Common.{◌∙◌, sym}
use Rattle.tpcc_audit.proofs.Seen.{seen_stand, left_stand}
use Rattle.tpcc_audit.proofs.settlement.settle.Goals as goal

pub returns-in-Ok-clause-settled : goal.returns-in-Ok-clause-settled
returns-in-Ok-clause-settled g c = λ receipts seen.
    let gathered = c.in-Ok.ensures.gathered in
    record {
      gathered = gathered;
      rise_is = c.rise.ensures.rise;
      equal = gathered.paid_rose ∙ sym c.rise.ensures.rise;
      stand = seen_stand c.receipts_stay.ensures c.args.purses.items c.in-Ok.book.entries receipts seen gathered.left.begins;
    }

pub returns-in-Err-clause-missing : goal.returns-in-Err-clause-missing
returns-in-Err-clause-missing g c = λ receipts seen.
    left_stand c.receipts_stay.ensures c.args.turns c.args.purses.items receipts c.in-Err.book seen c.in-Err.ensures.left
