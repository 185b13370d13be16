use Rattle.tpcc_tables.specs.Internal.Ready.{IsOpening}
use Rattle.tpcc_tables.proofs.rooms.open_all.Given as goal

abbrev pub invariant-loop-district : goal.invariant-loop-district
invariant-loop-district g l = IsOpening l.fn.parts l.parts l.districts l.district-index
