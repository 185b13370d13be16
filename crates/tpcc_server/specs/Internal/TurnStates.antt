-- Whose purse a server has.
use Rattle.tpcc_turns.specs.Seats.{Keeper, keeper_of}
use Rattle.tpcc_server.specs.declared.turn_state.TurnState.{TurnState}
use Rattle.tpcc_server.specs.declared.turn_state.TurnState.TheVariants.{Free, Holding}

module _ {N T : Type 0} where
  abbrev pub keeper_in : TurnState N T → Keeper
  keeper_in (Free purse) = keeper_of purse
  keeper_in (Holding held) = keeper_of held
