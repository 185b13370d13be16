-- A test of the row at a place, if there is one.
use Rattle.std.specs.Prelude.{ℕ, Bool, true, List, Option, Some, None, slice_get}

abbrev pub passes : {X : Type 0} → (X → Bool) → Option X → Bool
passes p None = true
passes p (Some x) = p x

-- whether the row at a place passes, if there is one
abbrev pub passes_at : {X : Type 0} → (X → Bool) → List X → ℕ → Bool
passes_at p xs i = passes p (slice_get xs i)
