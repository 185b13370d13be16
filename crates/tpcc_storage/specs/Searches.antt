-- Keys as lists of numbers, compared.
use Rattle.std.specs.Prelude.{ℕ, List, [], ◌∷◌, Bool, true, false, ◌&&◌, ◌==◌}

abbrev pub is_same_key : List ℕ → List ℕ → Bool
is_same_key [] [] = true
is_same_key [] (l ∷ ls) = false
is_same_key (k ∷ ks) [] = false
is_same_key (k ∷ ks) (l ∷ ls) = (k == l) && is_same_key ks ls
