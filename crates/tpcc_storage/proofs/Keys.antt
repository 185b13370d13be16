-- Keys whose first two numbers are a district's.
use Rattle.std.proofs.Common.{◌≡◌, ◌∙◌, ℕ, true, false, List, [], ◌∷◌, refl, ap, sym, arith}
use Rattle.std.specs.Prelude.{take}
use Rattle.std.proofs.lemmas.Bool.Decides.{nat_tests}
use Rattle.tpcc_rows.specs.Lists.{key_before}
use Rattle.tpcc_storage.specs.Searches.{is_same_key}

-- keys that are tested to be the same are equal, and the other way round
pub same_keys : (a b : List ℕ) → is_same_key a b ≡ true → a ≡ b
same_keys [] [] e = refl
same_keys [] (y ∷ b) e = cc
same_keys (x ∷ a) [] e = cc
same_keys (x ∷ a) (y ∷ b) e =
    let rest : is_same_key a b ≡ true = grind (arith, nat_tests) in
    let here : x ≡ y = grind (arith, nat_tests) in
    λ i. here i ∷ same_keys a b rest i

pub same_itself : (a : List ℕ) → is_same_key a a ≡ true
same_itself [] = refl
same_itself (x ∷ a) = grind (arith, nat_tests, same_itself a)

pub same_if_equal : (a b : List ℕ) → a ≡ b → is_same_key a b ≡ true
same_if_equal a b e = ap (is_same_key a) (sym e) ∙ same_itself a

pub same_swapped : (a b : List ℕ) → is_same_key a b ≡ is_same_key b a
same_swapped [] [] = refl
same_swapped [] (y ∷ b) = refl
same_swapped (x ∷ a) [] = refl
same_swapped (x ∷ a) (y ∷ b) = grind (arith, nat_tests, same_swapped a b)

-- no key comes before itself, and of two keys one at most comes before the other
pub not_before_itself : (a : List ℕ) → key_before a a ≡ false
not_before_itself [] = refl
not_before_itself (x ∷ a) = grind (arith, nat_tests, not_before_itself a)

pub one_before : (a b : List ℕ) → key_before a b ≡ true → key_before b a ≡ false
one_before [] b e = cc
one_before (x ∷ a) [] e = cc
one_before (x ∷ a) (y ∷ b) e = grind (arith, nat_tests, one_before a b)

-- keys are in the order of their districts, where those differ
pub district_decides : (a b : List ℕ) → key_before (take 2 a) (take 2 b) ≡ true → key_before a b ≡ true
district_decides [] b e = cc
district_decides (x ∷ a) [] e = cc
district_decides (x ∷ []) (y ∷ b) e = grind (arith, nat_tests)
district_decides (x ∷ u ∷ a) (y ∷ []) e = grind (arith, nat_tests)
district_decides (x ∷ u ∷ a) (y ∷ v ∷ b) e = grind (arith, nat_tests)

-- a later key of another district has a later district
pub district_later : (w d : ℕ) (a b : List ℕ) → take 2 a ≡ w ∷ d ∷ [] → key_before a b ≡ true → is_same_key (take 2 b) (w ∷ d ∷ []) ≡ false → key_before (w ∷ d ∷ []) (take 2 b) ≡ true
district_later w d [] b is h e = cc
district_later w d (x ∷ []) b is h e = cc
district_later w d (x ∷ u ∷ a) [] is h e = cc
district_later w d (x ∷ u ∷ a) (y ∷ []) is h e =
    let f : x ≡ w = cc in
    grind (arith, nat_tests, f)
district_later w d (x ∷ u ∷ a) (y ∷ v ∷ b) is h e =
    let f : x ≡ w = cc in
    let g : u ≡ d = cc in
    grind (arith, nat_tests, f, g)
