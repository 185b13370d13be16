use Rattle.std.proofs.Common.{refl}
use Rattle.tpcc_audit.specs.Settlement.{all_receipts}
use Rattle.tpcc_run.proofs.settled_book.totals_of.Goals as goal

pub returns-in-Ok-clause-settled : goal.returns-in-Ok-clause-settled
returns-in-Ok-clause-settled g c = record {
  purses = c.args.purses.items;
  back = c.requires.back;
  all_there = c.in-Ok.ensures.exactly.0 refl;
  settled = c.in-Ok.ensures.settled (all_receipts c.args.receipts.items) c.requires.seen;
}
