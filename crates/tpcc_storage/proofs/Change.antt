-- Rows changed one after another, taken out, and put in.
use Rattle.std.proofs.Common.{◌≡◌, ℕ, zero, suc, ◌<◌, Bool, true, false, List, [], ◌∷◌, ◌++◌, length, take, drop, get_or, refl, sym, ap, ◌∙◌, arith, cond}
use Rattle.std.specs.Prelude.{find, filter, if◌then◌else◌, not, remove, position, is_some, Some, None}
use Rattle.std.specs.List.{list_any}
use Rattle.std.proofs.lemmas.Bool.Decides.{nat_tests}
use Rattle.std.proofs.lemmas.List.Quantifiers.{position-Some}
use Rattle.tpcc_rows.specs.Lists.{updated, inserted, inserted_all, is_ascending, key_before}
use Rattle.tpcc_laws.proofs.List.{has_one, one_of_key, updated_absent, else_taken}
use Rattle.tpcc_storage.specs.Searches.{is_same_key}
use Rattle.tpcc_storage.proofs.Place.{found_there}

-- the one row of a key removed
pub kept_all : {X : Type 0} (passes : X → Bool) (xs : List X) → list_any passes xs ≡ false → filter (λ x. not (passes x)) xs ≡ xs
kept_all passes [] none = refl
kept_all passes (x ∷ xs) none = grind (arith, kept_all passes xs)

passes_some : {X : Type 0} (passes : X → Bool) (xs : List X) (i : ℕ) (d : X) → i < length xs → passes (get_or xs i d) ≡ true → list_any passes xs ≡ true
passes_some passes [] i d lt e = absurd (omega arith)
passes_some passes (x ∷ xs) zero d lt e = grind arith
passes_some passes (x ∷ xs) (suc i) d lt e = grind (arith, passes_some passes xs i d)

remove_is_filter : {X : Type 0} (passes : X → Bool) (xs : List X) (i : ℕ) (d : X) → i < length xs → passes (get_or xs i d) ≡ true → has_one passes xs ≡ true → take i xs ++ drop (suc i) xs ≡ filter (λ x. not (passes x)) xs
remove_is_filter passes [] i d lt e one = absurd (omega arith)
remove_is_filter passes (x ∷ xs) zero d lt e one = grind (arith, kept_all passes xs)
remove_is_filter passes (x ∷ xs) (suc i) d lt e one = grind (arith, passes_some passes xs i d, remove_is_filter passes xs i d)

pub removed_row : {X : Type 0} (key : X → List ℕ) (passes : X → Bool) → ((x y : X) → passes x ≡ true → passes y ≡ true → key_before (key x) (key y) ≡ false) → (xs : List X) (i : ℕ) (d : X) → is_ascending key xs ≡ true → position passes xs ≡ Some i → remove xs i ≡ filter (λ x. not (passes x)) xs
removed_row key passes apart xs i d keyed e =
    let at = position-Some passes xs i d e in
    remove_is_filter passes xs i d at.0 at.1 (one_of_key key passes apart xs keyed (ap is_some (found_there passes xs i d e)))

-- new rows put at their places, and one more
pub one_more_inserted : {X : Type 0} (before : X → X → Bool) (news : List X) (new : X) (xs : List X) → inserted before new (inserted_all before news xs) ≡ inserted_all before (news ++ new ∷ []) xs
one_more_inserted before [] new xs = refl
one_more_inserted before (n ∷ news) new xs = one_more_inserted before news new (inserted before n xs)

-- ---- tests that are the same

pub same_updated : {X : Type 0} (p q : X → Bool) (change : X → X) → ((x : X) → p x ≡ q x) → (xs : List X) → updated p change xs ≡ updated q change xs
same_updated p q change same [] = refl
same_updated p q change same (x ∷ xs) = λ i. (if same x i then change x else x) ∷ same_updated p q change same xs i

pub same_filter : {X : Type 0} (p q : X → Bool) → ((x : X) → p x ≡ q x) → (xs : List X) → filter p xs ≡ filter q xs
same_filter p q same [] = refl
same_filter p q same (x ∷ xs) = λ i. cond (same x i) (x ∷ same_filter p q same xs i) (same_filter p q same xs i)

-- ---- the one row that passes, changed and put back in its place

replaced_step : {X : Type 0} (passes : X → Bool) (change : X → X) (x y : X) (ys : List X) (b : Bool) → passes y ≡ b → has_one passes (y ∷ ys) ≡ true → find passes (y ∷ ys) ≡ Some x → (has_one passes ys ≡ true → find passes ys ≡ Some x → updated passes (λ z. change x) ys ≡ updated passes change ys) → updated passes (λ z. change x) (y ∷ ys) ≡ updated passes change (y ∷ ys)
replaced_step passes change x y ys true is one at next =
    let none : list_any passes ys ≡ false = grind (arith, is) in
    let same : y ≡ x = grind (arith, is) in
    λ i. (if passes y then change (sym same i) else y) ∷ (updated_absent passes (λ z. change x) ys none ∙ sym (updated_absent passes change ys none)) i
replaced_step passes change x y ys false is one at next =
    let later : has_one passes ys ≡ true = grind (arith, is) in
    let found : find passes ys ≡ Some x = grind (arith, is) in
    λ i. (else_taken (passes y) (change x) y is ∙ sym (else_taken (passes y) (change y) y is)) i ∷ next later found i

replaced_one : {X : Type 0} (passes : X → Bool) (change : X → X) (x : X) (xs : List X) → has_one passes xs ≡ true → find passes xs ≡ Some x → updated passes (λ z. change x) xs ≡ updated passes change xs
replaced_one passes change x [] one at = refl
replaced_one passes change x (y ∷ ys) one at = replaced_step passes change x y ys (passes y) refl one at (replaced_one passes change x ys)

pub replaced : {X : Type 0} (key : X → List ℕ) (passes : X → Bool) → ((x y : X) → passes x ≡ true → passes y ≡ true → key_before (key x) (key y) ≡ false) → (change : X → X) (xs : List X) (x : X) → is_ascending key xs ≡ true → find passes xs ≡ Some x → updated passes (λ z. change x) xs ≡ updated passes change xs
replaced key passes apart change xs x keyed at = replaced_one passes change x xs (one_of_key key passes apart xs keyed (ap is_some at)) at

-- keys that are the same are equal
pub same_key_is : (a b : List ℕ) → is_same_key a b ≡ true → a ≡ b
same_key_is [] [] e = refl
same_key_is [] (l ∷ ls) e = cc
same_key_is (k ∷ ks) [] e = cc
same_key_is (k ∷ ks) (l ∷ ls) e =
    let here : k ≡ l = grind (arith, nat_tests) in
    let rest : is_same_key ks ls ≡ true = grind (arith, nat_tests) in
    λ i. here i ∷ same_key_is ks ls rest i

-- what a look-up finds passes, and where it finds nothing no row is changed
pub found_passes : {X : Type 0} (passes : X → Bool) (xs : List X) (y : X) → find passes xs ≡ Some y → passes y ≡ true
found_passes passes [] y e = cc
found_passes passes (x ∷ xs) y e = grind (arith, found_passes passes xs y)

pub unfound_updated : {X : Type 0} (passes : X → Bool) (change : X → X) (xs : List X) → find passes xs ≡ None → xs ≡ updated passes change xs
unfound_updated passes change [] e = refl
unfound_updated passes change (x ∷ xs) e =
    let other : passes x ≡ false = grind arith in
    let rest : find passes xs ≡ None = grind arith in
    λ i. sym (else_taken (passes x) (change x) x other) i ∷ unfound_updated passes change xs rest i
