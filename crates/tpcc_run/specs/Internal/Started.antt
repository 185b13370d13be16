-- The threads that were started, by their promises, and how they are joined.
use Rattle.std.specs.Prelude.{ℕ, ◌≡◌, List, [], ◌∷◌, All, Vec, ◌++◌, Option, Some, ⊤, ◌⊎◌, map}
use Rattle.std.specs.declared.alloc.Global.{Global}
use Rattle.tpcc_rows.specs.Layout.{Scale}
use Rattle.tpcc_run.specs.declared.plan.Plan.{Plan}
use Rattle.tpcc_turns.specs.Seats.{SeatedView, keeper_of}
use Rattle.tpcc_terminal.specs.declared.receipts.Receipt.{Receipt}
use Rattle.tpcc_run.specs.OperatorView.{OperatorView}
use Rattle.tpcc_run.specs.Purses.{split_off}
use Rattle.tpcc_run.specs.Working.{HasWorked, HasRun}
use Rattle.tpcc_run.specs.Returned.{HasKept, returned_of, without_receipts}
use Rattle.tpcc_run.specs.declared.threads.duty.Duty.{Duty}
use Rattle.tpcc_run.specs.declared.threads.duty.Duty.TheVariants.{Cards}
use Rattle.tpcc_run.specs.declared.threads.promises.ComesBack.{ComesBack}
use Rattle.tpcc_run.specs.declared.threads.promises.KeepsPurse.{KeepsPurse}

-- a handle was added behind the others, or found no room
abbrev pub HasAdded : {H : Type 0} → H → List H → List H → Type 0
HasAdded handle old new = (new ≡ old) ⊎ (new ≡ old ++ handle ∷ [])

-- one that there may be
abbrev pub HasAddedSome : {H : Type 0} → Option H → List H → List H → Type 0
HasAddedSome started old new = (new ≡ old) ⊎ ((handle : _) × (started ≡ Some handle) × (new ≡ old ++ handle ∷ []))

-- this is promised, of a run of the plan
pub record IsPromised (duty : Duty) (scale : Scale) (plan : Plan) (promise : ComesBack) : Type 0 where
  pub duty_is : promise.duty ≡ duty
  pub scale_is : promise.scale ≡ scale
  pub plan_is : promise.plan ≡ plan

-- the threads of terminals of these numbers
pub record HaveStarted (scale : Scale) (plan : Plan) (numbers : List ℕ) (promises : List ComesBack) : Type 0 where
  pub numbers_are : map (λ p. p.number) promises ≡ numbers
  pub promised : All (IsPromised Cards scale plan) promises

-- each promise was kept by the terminal at its place
abbrev pub AreKept : List ComesBack → List OperatorView → Type 0
AreKept [] [] = ⊤
AreKept [] (post ∷ posts) = ⊥
AreKept (promise ∷ promises) [] = ⊥
AreKept (promise ∷ promises) (post ∷ posts) = HasWorked promise.duty promise.scale promise.plan promise.number post × AreKept promises posts

-- the terminals that had promised this were joined, and kept behind what was there
pub record HaveJoined (promises : List ComesBack) (purses : List SeatedView) (receipts : List (Vec Receipt Global)) (new_purses : List SeatedView) (new_receipts : List (Vec Receipt Global)) : Type 0 where
  pub posts : List OperatorView
  pub are_kept : AreKept promises posts
  pub kept : HasKept (map returned_of posts) purses receipts new_purses new_receipts

-- so was the delivery runner, which then asked for the rest
pub record HasJoinedRunner (promise : ComesBack) (purses : List SeatedView) (receipts : List (Vec Receipt Global)) (new_purses : List SeatedView) (new_receipts : List (Vec Receipt Global)) : Type 0 where
  pub post : OperatorView
  pub run : HasRun promise.scale promise.plan promise.number post
  pub kept : HasKept (returned_of post ∷ []) purses receipts new_purses new_receipts

module _ {N T : Type 0} where
  -- the threads of servers, whose purses have these numbers and were split off this one
  abbrev pub HaveStartedServers : SeatedView → List ℕ → List (KeepsPurse N T) → Type 0
  HaveStartedServers first numbers promises = map (λ p. p.purse.value) promises ≡ map (split_off first) numbers

  -- they were joined, their purses as they were, and kept behind what was there
  pub record HaveJoinedServers (promises : List (KeepsPurse N T)) (purses : List SeatedView) (receipts : List (Vec Receipt Global)) (new_purses : List SeatedView) (new_receipts : List (Vec Receipt Global)) : Type 0 where
    pub idle : List SeatedView
    pub idled : map keeper_of idle ≡ map (λ p. keeper_of p.purse.value) promises
    pub kept : HasKept (map without_receipts idle) purses receipts new_purses new_receipts
