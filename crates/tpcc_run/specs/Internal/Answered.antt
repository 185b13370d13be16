-- What is known of an operator that was answered.
use Rattle.std.specs.Prelude.{ℕ, ⊤}
use Rattle.tpcc_run.specs.OperatorView.{OperatorView}
use Rattle.tpcc_run.specs.Asking.{HasAsked}
use Rattle.tpcc_run.specs.declared.threads.operator_work.OperatorBack.{OperatorBack}
use Rattle.tpcc_run.specs.declared.threads.operator_work.OperatorBack.TheVariants as back
use Rattle.tpcc_run.specs.declared.threads.duty.Duty.TheVariants.{Rest}
use Rattle.tpcc_run.specs.declared.threads.operator.RequestOutcome.{RequestOutcome}
use Rattle.tpcc_run.specs.declared.threads.operator.RequestOutcome.TheVariants as asked

module _ {N T C : Type 0} where
  -- of one whose request was answered
  abbrev pub IfAnswered : RequestOutcome N T C → (OperatorView → Type 0) → Type 0
  IfAnswered (asked.Answered s delivered) P = P s
  IfAnswered (asked.Short s) P = ⊤
  IfAnswered asked.Missing P = ⊤

  -- of one that asked all
  abbrev pub IfAll : OperatorBack N T C → (OperatorView → Type 0) → Type 0
  IfAll (back.All s) P = P s
  IfAll (back.Short s) P = ⊤
  IfAll back.Missing P = ⊤

  -- one that had asked all has then asked the rest
  abbrev pub HasDrained : ℕ → OperatorBack N T C → OperatorView → Type 0
  HasDrained moment (back.All old) new = (count : ℕ) × HasAsked count Rest moment old new
  HasDrained moment (back.Short old) new = ⊥
  HasDrained moment back.Missing new = ⊥
