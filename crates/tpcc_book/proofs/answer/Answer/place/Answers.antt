use Rattle.std.proofs.Common.{rules}
use Rattle.tpcc_book.proofs.answer.Answer.place.Goals as goal

pub returns : goal.returns
returns g c = search rules
