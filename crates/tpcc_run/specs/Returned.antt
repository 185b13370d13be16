-- What comes back of a run, and what is kept of it.
use Rattle.std.specs.Prelude.{ℕ, ◌≡◌, ◌+◌, List, [], ◌∷◌, ◌++◌, All, Vec, map}
use Rattle.std.specs.List.{range_with_len}
use Rattle.std.specs.declared.alloc.Global.{Global}
use Rattle.tpcc_rows.specs.Layout.{Scale}
use Rattle.tpcc_run.specs.declared.plan.Plan.{Plan}
use Rattle.tpcc_run.specs.declared.plan.Service.{Service}
use Rattle.tpcc_run.specs.declared.plan.Service.TheVariants.{Servers, Direct}
use Rattle.tpcc_turns.specs.Seats.{SeatedView, keeper_of}
use Rattle.tpcc_terminal.specs.declared.receipts.Receipt.{Receipt}
use Rattle.tpcc_run.specs.OperatorView.{OperatorView}
use Rattle.tpcc_run.specs.Purses.{split_off, with_rooms}
use Rattle.tpcc_run.specs.Working.{HasWorked, HasRun}
use Rattle.tpcc_run.specs.declared.threads.duty.Duty.TheVariants.{Cards}

-- a purse, and the receipts of its terminal
pub record Returned : Type 0 where
  pub purse : SeatedView
  pub receipts : List Receipt

abbrev pub returned_of : OperatorView → Returned
returned_of post = record { purse = post.purse; receipts = post.station.receipts }

-- a purse for which nobody keeps receipts
abbrev pub without_receipts : SeatedView → Returned
without_receipts purse = record { purse = purse; receipts = [] }

-- the receipts of each vector
abbrev pub lists_of : List (Vec Receipt Global) → List (List Receipt)
lists_of = map (λ held. held.items)

-- what is kept is what was there, and these behind it
pub record HasKept (returned : List Returned) (purses : List SeatedView) (receipts : List (Vec Receipt Global)) (new_purses : List SeatedView) (new_receipts : List (Vec Receipt Global)) : Type 0 where
  pub purses_are : new_purses ≡ purses ++ map (λ r. r.purse) returned
  pub receipts_are : lists_of new_receipts ≡ lists_of receipts ++ map (λ r. r.receipts) returned

-- the plan's terminals in the order of their numbers, from 1 on: each began with an empty purse, and asked all its cards
pub record HaveWorked (scale : Scale) (plan : Plan) (posts : List OperatorView) : Type 0 where
  pub numbers : map (λ post. post.purse.purse.terminal) posts ≡ range_with_len 1 plan.terminals
  pub worked : All (λ post. HasWorked Cards scale plan post.purse.purse.terminal post) posts

-- the purses of so many servers, whose numbers are behind the delivery runner's: they made no entry and paid nothing
abbrev pub HaveIdled : ℕ → Plan → SeatedView → List SeatedView → Type 0
HaveIdled count plan first purses = map keeper_of purses ≡ map (λ number. keeper_of (split_off first number)) (range_with_len (plan.terminals + 2) count)

-- the purses and receipts of a run with so many servers, all split off one purse: those of the terminals, of the delivery runner, whose
-- number is the next, what is left of the purse, and the servers'
pub record HaveComeBack (servers : ℕ) (scale : Scale) (plan : Plan) (first : SeatedView) (purses : List SeatedView) (receipts : List (Vec Receipt Global)) : Type 0 where
  pub terminals : List OperatorView
  pub runner : OperatorView
  pub rest : SeatedView
  pub idle : List SeatedView
  pub terminals_worked : HaveWorked scale plan terminals
  pub runner_worked : HasRun scale plan (plan.terminals + 1) runner
  pub rest_is : first ≡ with_rooms rest (plan.terminals + 1 + servers)
  pub servers_idled : HaveIdled servers plan first idle
  pub kept : HasKept (map returned_of terminals ++ returned_of runner ∷ without_receipts rest ∷ map without_receipts idle) [] [] purses receipts

-- how many serve
abbrev pub servers_in : Service → ℕ
servers_in (Servers count retire) = count
servers_in Direct = 0

-- those of a run of the plan
abbrev pub HaveAllComeBack : Scale → Plan → SeatedView → List SeatedView → List (Vec Receipt Global) → Type 0
HaveAllComeBack scale plan = HaveComeBack (servers_in plan.service) scale plan
