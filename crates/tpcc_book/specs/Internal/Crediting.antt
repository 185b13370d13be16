-- What a turn adds to the two totals that the purses of a book share.
use Rattle.std.specs.Prelude.{ℕ, ℤ, pos, ◌≡◌, ◌+◌, ◌-◌, ◌<◌, ◌^◌, ◌+ℤ◌, ◌≤ℤ◌, MatchResult}
use Rattle.tpcc_rows.specs.Replay.{paid_by_request}
use Rattle.tpcc_book.specs.declared.register.outcome.Turned.{Turned}

-- both totals have room for one more entry and its payment
pub record CanCredit (entries cents : ℕ) (amount : ℤ) : Type 0 where
  pub room : entries < 2 ^ 63
  pub least : pos 0 ≤ℤ amount
  pub below : (pos cents +ℤ amount) ≤ℤ pos (2 ^ 63 - 1)

-- one more entry, and what its request paid; or nothing
abbrev pub IsCredited : Turned → ℕ → ℕ → ℕ → ℕ → Type 0
IsCredited turned entries cents more richer =
    MatchResult turned.outcome
    (λ reply. (more ≡ entries + 1) × (pos richer ≡ pos cents +ℤ paid_by_request turned.request))
    (λ refusal. (more ≡ entries) × (richer ≡ cents))
