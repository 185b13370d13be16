-- A list by its elements at their places.
use Rattle.std.proofs.Common.{◌≡◌, ◌∙◌, sym, ℕ, ◌+◌, ◌<◌, List, [], ◌∷◌, length, drop, get_or, arith}
use Rattle.std.proofs.lemmas.List.{drop_more, drop_all}

-- these elements stand one after another in a list, from a place on
abbrev pub AreAt : {X : Type 0} → ℕ → List X → List X → Type 0
AreAt i [] xs = Unit {0}
AreAt i (y ∷ ys) xs = (y ≡ get_or xs i y) × AreAt (i + 1) ys xs

-- elements that reach the list's end are the rest of the list
pub are_rest : {X : Type 0} (ys xs : List X) (i : ℕ) → AreAt i ys xs → i + length ys ≡ length xs → ys ≡ drop i xs
are_rest [] xs i at whole = sym (drop_all i xs (omega arith))
are_rest (y ∷ ys) xs i at whole =
    let before : i < length xs = omega arith in
    let rest = are_rest ys xs (i + 1) at.1 (omega arith) in
    (λ t. at.0 t ∷ rest t) ∙ sym (drop_more xs i y before)
