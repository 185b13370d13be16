-- The ranges of a plan, which have one proof at most, as a fact that a struct keeps must.
use Rattle.std.specs.Prelude.{⊤, ◌≤◌}
use Rattle.tpcc_run.specs.declared.plan.Plan.{Plan}
use Rattle.tpcc_run.specs.declared.plan.Service.{Service}
use Rattle.tpcc_run.specs.declared.plan.Service.TheVariants.{Servers, Direct}
use Rattle.tpcc_run.specs.declared.plan.TheConstants.{GREATEST_RETIRE, MOST_CARDS, MOST_SERVERS, MOST_TERMINALS}

-- the ranges of what serves
abbrev pub IsService : Service → Type 0
IsService (Servers count retire) = (1 ≤ count) × (count ≤ MOST_SERVERS) × (retire ≤ GREATEST_RETIRE)
IsService Direct = ⊤

-- the ranges of a plan
pub record IsPlan (plan : Plan) : Type 0 where
  pub terminals_least : 1 ≤ plan.terminals
  pub terminals_most : plan.terminals ≤ MOST_TERMINALS
  pub service : IsService plan.service
  pub cards_most : plan.cards ≤ MOST_CARDS
