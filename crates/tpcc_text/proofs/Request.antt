-- Words behind a line's first ones, one for each row of a list.
use Rattle.std.proofs.Common.{◌≡◌, ◌∙◌, ap, sym, subst, refl, ℕ, List, [], ◌∷◌, ◌++◌, append_assoc}
use Rattle.std.specs.Prelude.{map, flat_map}
use Rattle.tpcc_text.specs.Internal.Adding.{Adds}
use Rattle.tpcc_text.specs.Screens.{line}
use Rattle.tpcc_text.proofs.Chains.{behind}

pub words_behind : {X : Type 0} (f : X → List ℕ) (word : List ℕ) (xs : List X) → line word (map f xs) ≡ word ++ (flat_map (λ x. 32 ∷ f x) xs ++ 10 ∷ [])
words_behind f word [] = refl
words_behind f word (x ∷ xs) = ap (λ z. word ++ 32 ∷ z) (words_behind f (f x) xs ∙ sym (append_assoc (f x) (flat_map (λ y. 32 ∷ f y) xs) (10 ∷ [])))

-- four words, and what stands behind them
pub behind_four : {old mid new : List ℕ} (a b c d tail : List ℕ) → Adds old mid (a ++ (b ++ (c ++ (d ++ [])))) → Adds mid new tail → Adds old new (a ++ (b ++ (c ++ (d ++ tail))))
behind_four {old = old} {new = new} a b c d tail head behind_it =
    let three : (c ++ (d ++ [])) ++ tail ≡ c ++ (d ++ tail) = append_assoc c (d ++ []) tail ∙ ap (λ z. c ++ z) (append_assoc d [] tail) in
    let four : (b ++ (c ++ (d ++ []))) ++ tail ≡ b ++ (c ++ (d ++ tail)) = append_assoc b (c ++ (d ++ [])) tail ∙ ap (λ z. b ++ z) three in
    subst (Adds old new) (append_assoc a (b ++ (c ++ (d ++ []))) tail ∙ ap (λ z. a ++ z) four) (behind head behind_it)
