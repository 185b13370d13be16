-- What has a number.
use Rattle.std.proofs.Common.{◌≡◌, ◌∙◌, sym, ap, refl, ℕ, zero, suc, ◌<◌, List, [], ◌∷◌, length, slice_set, get_or}
use Rattle.std.specs.Prelude.{Bool, false, Option, Some, slice_get}
use Rattle.std.proofs.lemmas.Option.{slice_get_read}
use Rattle.tpcc_core.specs.Desks.{place_of, item_in, item, map_or}
use Rattle.tpcc_core.specs.Events.{tests_at, IsChangedAt}

-- it is told of and tested at its place
pub told_at_place : {X Y : Type 0} (none : Y) (f : X → Y) (xs : List X) (number place : ℕ) (was : X)
    → place_of number (length xs) ≡ Some place → slice_get xs place ≡ Some was → map_or none f (item xs number) ≡ f was
told_at_place none f xs number place was numbered found =
    ap (λ o. map_or none f (item_in xs o)) numbered ∙ ap (map_or none f) found

pub test_at_place : {X : Type 0} (test : X → Bool) (xs : List X) (number place : ℕ) (was : X)
    → place_of number (length xs) ≡ Some place → slice_get xs place ≡ Some was → tests_at test xs number ≡ test was
test_at_place = told_at_place false

-- another in its place
pub change_at_place : {X : Type 0} (xs : List X) (number place : ℕ) (was is new : X)
    → place_of number (length xs) ≡ Some place → slice_get xs place ≡ Some was → new ≡ is → IsChangedAt xs number was is (slice_set xs place new)
change_at_place xs number place was is new numbered found same =
    record { place = place; numbered = numbered; found = found; set = ap (slice_set xs place) same }

-- what an index gives
pub read_at : {X : Type 0} (seen xs : List X) (number place : ℕ) (x : X) (o : Option ℕ)
    → seen ≡ xs → o ≡ place_of number (length seen) → o ≡ Some place → place < length seen → x ≡ get_or xs place x
    → (place_of number (length xs) ≡ Some place) × (slice_get xs place ≡ Some x)
read_at seen xs number place x o same numbered is bound value =
    (ap (λ ys. place_of number (length ys)) (sym same) ∙ sym numbered ∙ is, slice_get_read xs (length seen) place x (ap length same) bound value)

pub same-item : {X : Type 0} (a b : X) → Some a ≡ Some b → a ≡ b
same-item a b h = cc

-- the same in its place
pub same_at_place : {X : Type 0} (xs : List X) (place : ℕ) (was new : X) → slice_get xs place ≡ Some was → new ≡ was → slice_set xs place new ≡ xs
same_at_place [] place was new found same = refl
same_at_place (x ∷ xs) zero was new found same = ap (λ y. y ∷ xs) (same ∙ sym (same-item x was found))
same_at_place (x ∷ xs) (suc place) was new found same = ap (λ ys. x ∷ ys) (same_at_place xs place was new found same)
