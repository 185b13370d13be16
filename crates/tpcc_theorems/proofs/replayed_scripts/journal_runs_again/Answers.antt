use Rattle.tpcc_theorems.proofs.Replaying.{runs_again}
use Rattle.tpcc_theorems.proofs.replayed_scripts.journal_runs_again.Goals as goal

pub returns : goal.returns
returns c = runs_again
