use Rattle.tpcc_laws.proofs.Replay.{replay-push, faithful_push}
use Rattle.tpcc_laws.proofs.laws.journal_grows.Goals as goal

pub returns : goal.returns
returns c = record { replay = replay-push; faithful = faithful_push }
