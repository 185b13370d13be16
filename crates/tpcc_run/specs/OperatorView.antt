-- What an operator is seen as.
use Rattle.tpcc_turns.specs.Seats.{SeatedView}
use Rattle.tpcc_terminal.specs.Terminals.{TerminalView}

-- a terminal between two requests: its purse, and what it is seen as
pub record OperatorView : Type 0 where
  pub purse : SeatedView
  pub station : TerminalView
