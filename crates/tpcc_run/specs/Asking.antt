-- What an operator asks, one request after another.
use Rattle.std.specs.Prelude.{◌≡◌, ℕ, zero, suc, ◌++◌}
use Rattle.tpcc_rows.specs.declared.transactions.requests.Request.{Request}
use Rattle.tpcc_rows.specs.declared.transactions.requests.Request.TheVariants as requests
use Rattle.tpcc_turns.specs.Seats.{SeatedView, IsTurned}
use Rattle.tpcc_book.specs.AnswerView.{AnswerView}
use Rattle.tpcc_terminal.specs.Receipts.{receipts_of}
use Rattle.tpcc_terminal.specs.Terminals.{TerminalView, IsAsked}
use Rattle.tpcc_run.specs.OperatorView.{OperatorView}
use Rattle.tpcc_run.specs.declared.threads.duty.Duty.{Duty}
use Rattle.tpcc_run.specs.declared.threads.duty.Duty.TheVariants.{Cards, Deliveries, Rest}

-- a request was answered by one turn of the book for the purse, and the receipt, if there is one, was kept
pub record HasAnswered (request : Request) (old new : OperatorView) : Type 0 where
  pub answer : AnswerView SeatedView
  pub turned : IsTurned request old.purse answer
  pub purse_is : new.purse ≡ answer.purse
  pub noted : new.station ≡ record old.station { receipts = old.station.receipts ++ receipts_of (λ p. p.purse) answer }

-- the request of the next card, or that for the next district's delivery (2.7.2), and the terminal behind it
abbrev pub IsNext : Duty → ℕ → TerminalView → Request → TerminalView → Type 0
IsNext Cards moment old request new = IsAsked old moment request new
IsNext Deliveries moment old request new = (request ≡ requests.Deliver moment) × (new ≡ old)
IsNext Rest moment old request new = (request ≡ requests.Deliver moment) × (new ≡ old)

-- the next request was answered
pub record HasAskedNext (duty : Duty) (moment : ℕ) (old new : OperatorView) : Type 0 where
  pub request : Request
  pub ahead : TerminalView
  pub next : IsNext duty moment old.station request ahead
  pub answered : HasAnswered request (record { purse = old.purse; station = ahead }) new

-- so many of them, one after another
abbrev pub HasAsked : ℕ → Duty → ℕ → OperatorView → OperatorView → Type 0
HasAsked zero duty moment old new = new ≡ old
HasAsked (suc count) duty moment old new = (mid : OperatorView) × HasAsked count duty moment old mid × HasAskedNext duty moment mid new

-- all that a duty asks of so many requests: the rest ends with the first that is no district's delivery
abbrev pub HasAskedAll : Duty → ℕ → ℕ → OperatorView → OperatorView → Type 0
HasAskedAll Cards count moment old new = HasAsked count Cards moment old new
HasAskedAll Deliveries count moment old new = HasAsked count Deliveries moment old new
HasAskedAll Rest count moment old new = (asked : ℕ) × HasAsked asked Rest moment old new
