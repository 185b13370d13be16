-- Terminals that have worked.
use Rattle.std.proofs.Common.{◌≡◌, ◌∙◌, ap, sym, refl, subst, ℕ, zero, suc, List, [], ◌∷◌, map, All}
use Rattle.std.specs.Prelude.{Result, Ok, Err, MatchResult}
use Rattle.std.proofs.lemmas.List.Elements.{All-nil, All-cons, All-head, All-tail}
use Rattle.tpcc_rows.specs.Layout.{Scale}
use Rattle.tpcc_rows.specs.declared.transactions.requests.Request.{Request}
use Rattle.tpcc_rows.specs.declared.transactions.replies.Reply.{Reply}
use Rattle.tpcc_rows.specs.declared.transactions.refusals.Refusal.{Refusal}
use Rattle.tpcc_rows.specs.Replay.{paid_by_request}
use Rattle.tpcc_run.specs.declared.plan.Plan.{Plan}
use Rattle.tpcc_turns.specs.Seats.{SeatedView}
use Rattle.tpcc_book.specs.Purses.{PurseView}
use Rattle.tpcc_book.specs.Serve.{purse_after}
use Rattle.tpcc_terminal.specs.Terminals.{IsStarted}
use Rattle.tpcc_run.specs.OperatorView.{OperatorView}
use Rattle.tpcc_run.specs.Purses.{empty_purse}
use Rattle.tpcc_run.specs.Internal.Answered.{IfAll}
use Rattle.tpcc_run.specs.Asking.{HasAsked, HasAskedAll, HasAskedNext}
use Rattle.tpcc_run.specs.Internal.Started.{AreKept, HaveStarted, IsPromised}
use Rattle.tpcc_run.specs.Working.{HasWorked}
use Rattle.tpcc_run.specs.declared.threads.operator_work.OperatorBack.{OperatorBack}
use Rattle.tpcc_run.specs.declared.threads.operator_work.OperatorBack.TheVariants.{All as Whole, Short, Missing}
use Rattle.tpcc_run.specs.declared.threads.duty.Duty.{Duty}
use Rattle.tpcc_run.specs.declared.threads.duty.Duty.TheVariants.{Cards}
use Rattle.tpcc_run.specs.declared.threads.promises.ComesBack.{ComesBack}

-- from its start on
pub has_worked : {N T C : Type 0} (duty : Duty) (scale : Scale) (plan : Plan) (begun : OperatorView) (back : OperatorBack N T C)
    → begun.purse.purse ≡ empty_purse begun.purse.purse.terminal → IsStarted begun.purse.purse.terminal scale plan.seed begun.station
    → IfAll back (HasAskedAll duty plan.cards plan.moment begun) → IfAll back (HasWorked duty scale plan begun.purse.purse.terminal)
has_worked duty scale plan begun (Whole s) empty started asked = record { begun = begun; empty = empty; started = started; asked = asked }
has_worked duty scale plan begun (Short s) empty started asked = tt
has_worked duty scale plan begun Missing empty started asked = tt

-- a purse stays its terminal's
answered_same : (request : Request) (old new : PurseView) (r : Result Reply Refusal) → MatchResult r (λ reply. new ≡ purse_after old (paid_by_request request)) (λ refusal. new ≡ old) → new.terminal ≡ old.terminal
answered_same request old new (Ok reply) is = ap (λ (p : PurseView). p.terminal) is
answered_same request old new (Err refusal) is = ap (λ (p : PurseView). p.terminal) is

next_same : (duty : Duty) (moment : ℕ) (old new : OperatorView) → HasAskedNext duty moment old new → new.purse.purse.terminal ≡ old.purse.purse.terminal
next_same duty moment old new next =
    let a = next.answered in
    ap (λ (p : SeatedView). p.purse.terminal) a.purse_is
    ∙ answered_same next.request old.purse.purse a.answer.purse.purse a.answer.outcome a.turned.served.fits.purse_is

asked_same : (count : ℕ) (duty : Duty) (moment : ℕ) (old new : OperatorView) → HasAsked count duty moment old new → new.purse.purse.terminal ≡ old.purse.purse.terminal
asked_same zero duty moment old new asked = ap (λ (p : OperatorView). p.purse.purse.terminal) asked
asked_same (suc count) duty moment old new asked =
    next_same duty moment asked.0 new asked.2 ∙ asked_same count duty moment old asked.0 asked.1

worked_same : (scale : Scale) (plan : Plan) (number : ℕ) (post : OperatorView) → HasWorked Cards scale plan number post → post.purse.purse.terminal ≡ number
worked_same scale plan number post worked =
    asked_same plan.cards Cards plan.moment worked.begun post worked.asked ∙ ap (λ (p : PurseView). p.terminal) worked.empty

-- what was promised of a terminal's cards was kept
promise_worked : (scale : Scale) (plan : Plan) (promise : ComesBack) (post : OperatorView)
    → IsPromised Cards scale plan promise → HasWorked promise.duty promise.scale promise.plan promise.number post → HasWorked Cards scale plan promise.number post
promise_worked scale plan promise post promised worked =
    subst (λ (s : Scale). HasWorked Cards s plan promise.number post) promised.scale_is
    (subst (λ (one : Plan). HasWorked Cards promise.scale one promise.number post) promised.plan_is
    (subst (λ (duty : Duty). HasWorked duty promise.scale promise.plan promise.number post) promised.duty_is worked))

module _ (scale : Scale) (plan : Plan) where
  abbrev pub Works : OperatorView → Type 0
  Works post = HasWorked Cards scale plan post.purse.purse.terminal post

  -- the terminals that were started have worked
  pub have_worked : (numbers : List ℕ) (promises : List ComesBack) (posts : List OperatorView)
      → HaveStarted scale plan numbers promises → AreKept promises posts → (map (λ (post : OperatorView). post.purse.purse.terminal) posts ≡ numbers) × All Works posts
  have_worked [] [] [] started kept = (refl, All-nil Works)
  have_worked [] [] (q ∷ qs) started kept = absurd kept
  have_worked [] (p ∷ ps) qs started kept = absurd (cc started.numbers_are)
  have_worked (n ∷ ns) [] qs started kept = absurd (cc started.numbers_are)
  have_worked (n ∷ ns) (p ∷ ps) [] started kept = absurd kept
  have_worked (n ∷ ns) (p ∷ ps) (q ∷ qs) started kept =
      let same : p.number ≡ n = cc started.numbers_are in
      let rest : map (λ (one : ComesBack). one.number) ps ≡ ns = cc started.numbers_are in
      let worked = promise_worked scale plan p q (All-head (IsPromised Cards scale plan) p ps started.promised) kept.0 in
      let number : q.purse.purse.terminal ≡ p.number = worked_same scale plan p.number q worked in
      let more = have_worked ns ps qs (record { numbers_are = rest; promised = All-tail (IsPromised Cards scale plan) p ps started.promised }) kept.1 in
      (cc (number, same, more.0), All-cons Works q qs (subst (λ (m : ℕ). HasWorked Cards scale plan m q) (sym number) worked) more.1)
