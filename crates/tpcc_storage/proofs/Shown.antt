-- Lists as functions of what their entries show.
use Rattle.std.proofs.Common.{◌≡◌, ℕ, Bool, List, [], ◌∷◌, map, refl, ap}
use Rattle.std.specs.Prelude.{◌&&◌}
use Rattle.std.specs.List.{list_all}
use Rattle.tpcc_rows.specs.Lists.{is_ascending, key_before}

pub map-shown : {A S B : Type 0} (show : A → S) (h : S → B) (xs : List A) → map (λ a. h (show a)) xs ≡ map h (map show xs)
map-shown show h [] = refl
map-shown show h (x ∷ xs) = ap (λ ys. h (show x) ∷ ys) (map-shown show h xs)

pub all-shown : {A S : Type 0} (show : A → S) (h : S → Bool) (xs : List A) → list_all (λ a. h (show a)) xs ≡ list_all h (map show xs)
all-shown show h [] = refl
all-shown show h (x ∷ xs) = ap (λ b. h (show x) && b) (all-shown show h xs)

pub ascending-shown : {A S : Type 0} (show : A → S) (columns : S → List ℕ) (xs : List A) → is_ascending (λ a. columns (show a)) xs ≡ is_ascending columns (map show xs)
ascending-shown show columns [] = refl
ascending-shown show columns (x ∷ xs) = λ i. all-shown show (λ s. key_before (columns (show x)) (columns s)) xs i && ascending-shown show columns xs i
