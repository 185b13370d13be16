use Rattle.tpcc_core.proofs.Ends.{entries_are, all_recorded, collected_recorded}
use Rattle.tpcc_core.proofs.laws.entries_are_accepted_requests.Goals as goal

pub returns : goal.returns
returns c = record { entries = entries_are; served = all_recorded; collected = collected_recorded }
