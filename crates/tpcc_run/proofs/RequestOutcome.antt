-- Requests that were asked one after another.
use Rattle.std.proofs.Common.{◌≡◌, ℕ, suc, ◌+◌, subst, arith, Bool, true, false}
use Rattle.tpcc_turns.specs.Seats.{SeatedView}
use Rattle.tpcc_rows.specs.declared.transactions.requests.Request.{Request}
use Rattle.tpcc_run.specs.OperatorView.{OperatorView}
use Rattle.tpcc_run.specs.declared.threads.duty.Duty.{Duty}
use Rattle.tpcc_run.specs.declared.threads.duty.Duty.TheVariants.{Cards, Deliveries, Rest}
use Rattle.tpcc_run.specs.declared.threads.operator.RequestOutcome.{RequestOutcome}
use Rattle.tpcc_run.specs.declared.threads.operator.RequestOutcome.TheVariants.{Answered, Short, Missing}
use Rattle.tpcc_run.specs.Internal.Answered.{IfAnswered}
use Rattle.tpcc_run.specs.Asking.{HasAnswered, HasAsked, HasAskedAll, HasAskedNext, IsNext}
use Rattle.tpcc_run.specs.Internal.Asking.{IsEndless}

-- one more of them
pub asked_more : (count : ℕ) (duty : Duty) (moment : ℕ) (old mid new : OperatorView)
    → HasAsked count duty moment old mid → HasAskedNext duty moment mid new → HasAsked (count + 1) duty moment old new
asked_more count duty moment old mid new before next =
    let e : count + 1 ≡ suc count = omega arith in
    rw e (mid, before, next)

-- the rest may end early
pub asked_rest : (count asked : ℕ) (duty : Duty) (moment : ℕ) (old new : OperatorView) → (IsEndless duty → ⊥) → HasAsked asked duty moment old new → HasAskedAll duty count moment old new
asked_rest count asked Cards moment old new not h = absurd (not tt)
asked_rest count asked Deliveries moment old new not h = absurd (not tt)
asked_rest count asked Rest moment old new not h = (asked, h)

-- the next request was answered
pub asked_next : {N T C : Type 0} (duty : Duty) (moment : ℕ) (old : OperatorView) (request : Request) (ahead : OperatorView) (asked : RequestOutcome N T C) → ahead.purse ≡ old.purse
    → IsNext duty moment old.station request ahead.station → IfAnswered asked (HasAnswered request ahead) → IfAnswered asked (HasAskedNext duty moment old)
asked_next duty moment old request ahead (Answered new delivered) same next answered = record {
  request = request;
  ahead = ahead.station;
  next = next;
  answered = subst (λ (p : SeatedView). HasAnswered request (record { purse = p; station = ahead.station }) new) same answered;
}
asked_next duty moment old request ahead (Short new) same next answered = tt
asked_next duty moment old request ahead Missing same next answered = tt

-- a duty that ends has asked all
pub asked_end : (most count : ℕ) (duty : Duty) (moment : ℕ) (old mid new : OperatorView) (goes_on : Bool)
    → goes_on ≡ false → (IsEndless duty → goes_on ≡ true) → HasAsked count duty moment old mid → HasAskedNext duty moment mid new → HasAskedAll duty most moment old new
asked_end most count duty moment old mid new goes_on ends endless before next =
    asked_rest most (count + 1) duty moment old new (λ it. absurd (cc (endless it, ends))) (asked_more count duty moment old mid new before next)
