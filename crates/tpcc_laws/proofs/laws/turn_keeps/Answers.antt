use Rattle.tpcc_laws.proofs.TurnKeeps.{turn_keeps}
use Rattle.tpcc_laws.proofs.TurnKeys.{IsSound, turn_is_sound}
use Rattle.tpcc_laws.proofs.TurnRanges.{turn_in_range}
use Rattle.tpcc_laws.proofs.laws.turn_keeps.Goals as goal

pub returns : goal.returns
returns c = λ s request moment none sound.
    let parts : IsSound s.rows = record { keyed = sound.well_keyed.keyed; parents = sound.well_keyed.parents; stocked = sound.stocked } in
    let kept = turn_is_sound s request none parts in
    let ranges = turn_in_range s request moment none parts sound.well_keyed.ranges sound.queue in
    record {
      well_keyed = record { keyed = kept.keyed; parents = kept.parents; ranges = ranges.0 };
      queue = ranges.1;
      stocked = kept.stocked;
      consistent = turn_keeps s request sound.well_keyed.keyed sound.well_keyed.parents none sound.consistent;
    }
