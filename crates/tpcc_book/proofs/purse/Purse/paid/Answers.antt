use Rattle.std.proofs.Common.{rules}
use Rattle.tpcc_book.proofs.purse.Purse.paid.Goals as goal

pub returns : goal.returns
returns g c = search rules
