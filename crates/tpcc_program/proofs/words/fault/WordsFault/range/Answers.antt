use Rattle.std.proofs.Common.{rules}
use Rattle.tpcc_program.proofs.words.fault.WordsFault.range.Goals as goal

pub returns-in-Scale-Items : goal.returns-in-Scale-Items
returns-in-Scale-Items c = search rules
