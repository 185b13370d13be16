use Rattle.tpcc_laws.proofs.TurnKeys.{turn_is_sound}
use Rattle.tpcc_conditions.proofs.stocked.stock_stays.Goals as goal

pub returns : goal.returns
returns c = λ s request none well stocked. (turn_is_sound s request none (record { keyed = well.keyed; parents = well.parents; stocked = stocked })).stocked
