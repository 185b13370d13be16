-- What a terminal's thread gives back.
use Rattle.std.specs.Prelude.{ℕ, ◌≡◌}
use Rattle.tpcc_rows.specs.Layout.{Scale}
use Rattle.tpcc_run.specs.declared.plan.Plan.{Plan}
use Rattle.tpcc_run.specs.Purses.{empty_purse}
use Rattle.tpcc_terminal.specs.Terminals.{IsStarted}
use Rattle.tpcc_run.specs.OperatorView.{OperatorView}
use Rattle.tpcc_run.specs.Asking.{HasAsked, HasAskedAll}
use Rattle.tpcc_run.specs.declared.threads.duty.Duty.{Duty}
use Rattle.tpcc_run.specs.declared.threads.duty.Duty.TheVariants.{Deliveries, Rest}

-- the terminal of this number, of this scale and of the plan's seed, began with an empty purse, and has asked all that its duty asks
-- of the plan's cards
pub record HasWorked (duty : Duty) (scale : Scale) (plan : Plan) (number : ℕ) (now : OperatorView) : Type 0 where
  pub begun : OperatorView
  pub empty : begun.purse.purse ≡ empty_purse number
  pub started : IsStarted number scale plan.seed begun.station
  pub asked : HasAskedAll duty plan.cards plan.moment begun now

-- the delivery runner has asked for deliveries as often as a terminal has cards, and then for what was left
pub record HasRun (scale : Scale) (plan : Plan) (number : ℕ) (now : OperatorView) : Type 0 where
  pub mid : OperatorView
  pub worked : HasWorked Deliveries scale plan number mid
  pub rested : (count : ℕ) × HasAsked count Rest plan.moment mid now
