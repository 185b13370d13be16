-- The mailboxes that a server answered.
use Rattle.std.specs.Prelude.{◌≡◌, ℕ, ◌+◌, ◌<◌, ◌≤◌, List, [], ◌∷◌, ◌++◌, length}

-- numbers that rise strictly: none is below `low`, and all are below `high`
abbrev pub IsRising : ℕ → List ℕ → ℕ → Type 0
IsRising low [] high = Unit {0}
IsRising low (k ∷ ks) high = (low ≤ k) × (k < high) × IsRising (k + 1) ks high

-- So many mailboxes were answered after those that had been answered before.
abbrev pub HasAnswered : List ℕ → List ℕ → ℕ → Type 0
HasAnswered before after count = (ks : List ℕ) × (after ≡ before ++ ks) × (length ks ≡ count)

-- The same in one round: each at most once, in rising order, and all below a bound.
abbrev pub HasAnsweredInTurn : List ℕ → List ℕ → ℕ → ℕ → Type 0
HasAnsweredInTurn before after count bound = (ks : List ℕ) × (after ≡ before ++ ks) × (length ks ≡ count) × IsRising 0 ks bound
