use Rattle.tpcc_text.proofs.Parting.{first_part}
use Rattle.tpcc_text.proofs.script.words.split_once.Goals as goal

pub returns-in-Some-clause-some : goal.returns-in-Some-clause-some
returns-in-Some-clause-some c = first_part c.args.divider c.args.bytes.now c.in-Some.place c.in-Some.ensures.place
