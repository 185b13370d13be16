-- A write at the place of a key's row, as an update by key.
use Rattle.std.proofs.Common.{◌≡◌, ℕ, zero, suc, ◌<◌, Bool, true, false, List, [], ◌∷◌, length, get_or, set, slice_get, refl, sym, ap, ◌∙◌, arith, Some, None}
use Rattle.std.specs.Prelude.{find, position, is_some}
use Rattle.std.specs.List.{list_any, position_or_len}
use Rattle.std.proofs.lemmas.Bool.Decides.{nat_tests}
use Rattle.std.proofs.lemmas.List.Quantifiers.{position-Some}
use Rattle.tpcc_rows.specs.Lists.{updated, is_ascending, key_before}
use Rattle.tpcc_laws.proofs.List.{one_of_key, set_is_updated, updated_absent}

found_at : {X : Type 0} (passes : X → Bool) (xs : List X) (i : ℕ) (d : X) → i < length xs → passes (get_or xs i d) ≡ true → ((k : ℕ) → k < i → passes (get_or xs k d) ≡ false) → find passes xs ≡ Some (get_or xs i d)
found_at passes [] i d lt e first = absurd (omega arith)
found_at passes (x ∷ xs) zero d lt e first = grind arith
found_at passes (x ∷ xs) (suc i) d lt e first =
    let here : passes x ≡ false = first 0 (omega arith) in
    let later = found_at passes xs i d (omega arith) e (λ k lower. first (suc k) (omega arith)) in
    grind (arith, here, later)

-- the first row that passes is the one that a look-up finds
pub found_there : {X : Type 0} (passes : X → Bool) (xs : List X) (i : ℕ) (d : X) → position passes xs ≡ Some i → find passes xs ≡ Some (get_or xs i d)
found_there passes xs i d e = let at = position-Some passes xs i d e in found_at passes xs i d at.0 at.1 at.2

some_before : {X : Type 0} (passes : X → Bool) (xs : List X) → list_any passes xs ≡ true → position_or_len passes xs < length xs
some_before passes [] e = cc
some_before passes (x ∷ xs) e = grind (arith, some_before passes xs)

no_place : {X : Type 0} (passes : X → Bool) (xs : List X) → position_or_len passes xs < length xs → position passes xs ≡ None → ⊥
no_place passes xs lt none = grind (arith, nat_tests)

pub none_before : {X : Type 0} (passes : X → Bool) (xs : List X) (b : Bool) → list_any passes xs ≡ b → position passes xs ≡ None → list_any passes xs ≡ false
none_before passes xs true e none = absurd (no_place passes xs (some_before passes xs e) none)
none_before passes xs false e none = e

pub written : {X : Type 0} (key : X → List ℕ) (passes : X → Bool) → ((x y : X) → passes x ≡ true → passes y ≡ true → key_before (key x) (key y) ≡ false) → (change : X → X) (xs : List X) (i : ℕ) (d : X) → is_ascending key xs ≡ true → position passes xs ≡ Some i → set xs i (change (get_or xs i d)) ≡ updated passes change xs
written key passes apart change xs i d keyed e =
    let at = position-Some passes xs i d e in
    set_is_updated passes change xs i d at.0 at.1 (one_of_key key passes apart xs keyed (ap is_some (found_there passes xs i d e)))

-- the same of a row that was borrowed from its place
pub found_row : {X : Type 0} (passes : X → Bool) (xs : List X) (i : ℕ) (y : X) → position passes xs ≡ Some i → y ≡ get_or xs i y → find passes xs ≡ Some y
found_row passes xs i y e here = found_there passes xs i y e ∙ ap Some (sym here)

pub written_row : {X : Type 0} (key : X → List ℕ) (passes : X → Bool) → ((x y : X) → passes x ≡ true → passes y ≡ true → key_before (key x) (key y) ≡ false) → (change : X → X) (xs : List X) (i : ℕ) (y : X) → is_ascending key xs ≡ true → position passes xs ≡ Some i → y ≡ get_or xs i y → set xs i (change y) ≡ updated passes change xs
written_row key passes apart change xs i y keyed e here = ap (λ z. set xs i (change z)) here ∙ written key passes apart change xs i y keyed e

pub unwritten : {X : Type 0} (passes : X → Bool) (change : X → X) (xs : List X) → position passes xs ≡ None → xs ≡ updated passes change xs
unwritten passes change xs e = sym (updated_absent passes change xs (none_before passes xs (list_any passes xs) refl e))

got : {X : Type 0} (xs : List X) (i : ℕ) (d : X) → i < length xs → slice_get xs i ≡ Some (get_or xs i d)
got [] i d lt = absurd (omega arith)
got (x ∷ xs) zero d lt = refl
got (x ∷ xs) (suc i) d lt = got xs i d (omega arith)

-- what is got from its place is what a look-up finds
pub got_there : {X : Type 0} (passes : X → Bool) (xs : List X) (i : ℕ) → position passes xs ≡ Some i → slice_get xs i ≡ find passes xs
got_there passes [] i e = cc
got_there passes (x ∷ xs) i e = got (x ∷ xs) i x (position-Some passes (x ∷ xs) i x e).0 ∙ sym (found_there passes (x ∷ xs) i x e)

pub place_within : {X : Type 0} (passes : X → Bool) (xs : List X) (i : ℕ) → position passes xs ≡ Some i → i < length xs
place_within passes [] i e = cc
place_within passes (x ∷ xs) i e = (position-Some passes (x ∷ xs) i x e).0
