use Rattle.std.proofs.Common.{rules}
use Rattle.tpcc_script.proofs.watch.Watch.new.Goals as goal

pub returns : goal.returns
returns c = search rules
