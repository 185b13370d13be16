use Rattle.std.proofs.Common.{ap}
use Rattle.tpcc_text.specs.Script.{Script}
use Rattle.tpcc_theorems.proofs.Replaying.{reads_again, same_again}
use Rattle.tpcc_theorems.proofs.replayed_scripts.journal_is_done_again.Goals as goal

pub returns-clause-whole : goal.returns-clause-whole
returns-clause-whole c = λ book w. ap (λ (s : Script). s.fault) (reads_again book w)

pub returns-clause-same : goal.returns-clause-same
returns-clause-same c = same_again
