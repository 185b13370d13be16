-- Lists in the order of a comparison.
use Rattle.std.specs.Prelude.{Bool, true, not, ◌&&◌, List, [], ◌∷◌}
use Rattle.std.specs.List.{list_all}

-- no element comes before an earlier one
abbrev pub is_in_order : {X : Type 0} → (X → X → Bool) → List X → Bool
is_in_order before [] = true
is_in_order before (x ∷ xs) = list_all (λ later. not (before later x)) xs && is_in_order before xs
