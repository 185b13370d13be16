-- What has a number, after another was put in the place of one.
use Rattle.std.proofs.Common.{◌≡◌, ◌∙◌, sym, ap, refl, ℕ, zero, suc, Bool, true, false, cond, eqb, ◌≢◌, ◌⊎◌, inl, inr, ⊎_elim, List, [], ◌∷◌, length, length-set, nat_lt}
use Rattle.std.specs.Prelude.{Option, Some, None, slice_get, slice_set}
use Rattle.std.proofs.lemmas.Bool.Decides.{eqb_tells}
use Rattle.tpcc_core.specs.Desks.{place_of, item_in, item, map_or}
use Rattle.tpcc_core.specs.Events.{IsChangedAt}

put_here : {X : Type 0} (xs : List X) (place : ℕ) (was is : X) → slice_get xs place ≡ Some was → slice_get (slice_set xs place is) place ≡ Some is
put_here [] place was is h = absurd cc
put_here (x ∷ xs) zero was is h = refl
put_here (x ∷ xs) (suc place) was is h = put_here xs place was is h

put_else : {X : Type 0} (xs : List X) (place other : ℕ) (is : X) → (other ≡ place → ⊥) → slice_get (slice_set xs place is) other ≡ slice_get xs other
put_else [] place other is apart = refl
put_else (x ∷ xs) zero zero is apart = absurd (apart refl)
put_else (x ∷ xs) zero (suc other) is apart = refl
put_else (x ∷ xs) (suc place) zero is apart = refl
put_else (x ∷ xs) (suc place) (suc other) is apart = put_else xs place other is (λ e. apart (ap suc e))

-- two numbers are the same or not
pub same_number : (a b : ℕ) → (a ≡ b) ⊎ (a ≡ b → ⊥)
same_number a b = ⊎_elim (λ (y : (eqb a b ≡ true) × (a ≡ b)). inl y.1) (λ (n : (eqb a b ≡ false) × (a ≢ b)). inr n.1) (eqb_tells a b)

-- a place is the number less one
pub number_of : (number count place : ℕ) → place_of number count ≡ Some place → number ≡ suc place
number_of zero count place h = absurd cc
number_of (suc n) count place h = ap suc (chosen n place (nat_lt n count) h)
  where
    chosen : (n place : ℕ) (b : Bool) → cond b (Some n) None ≡ Some place → n ≡ place
    chosen n place true h = cc
    chosen n place false h = absurd cc

-- there was the one, and there is the other,
pub was_at : {X : Type 0} (xs ys : List X) (number : ℕ) (was is : X) → IsChangedAt xs number was is ys → item xs number ≡ Some was
was_at xs ys number was is c = ap (item_in xs) c.numbered ∙ c.found

pub is_at : {X : Type 0} (xs ys : List X) (number : ℕ) (was is : X) → IsChangedAt xs number was is ys → item ys number ≡ Some is
is_at xs ys number was is c =
    ap (λ zs. item zs number) c.set
    ∙ (ap (λ n. item_in (slice_set xs c.place is) (place_of number n)) (length-set xs c.place is)
    ∙ (ap (item_in (slice_set xs c.place is)) c.numbered ∙ put_here xs c.place was is c.found))

-- and all others are as they were
pub else_at : {X : Type 0} (xs ys : List X) (number : ℕ) (was is : X) (other : ℕ) → IsChangedAt xs number was is ys → (other ≡ number → ⊥) → item ys other ≡ item xs other
else_at {X} xs ys number was is other c apart =
    ap (λ zs. item zs other) c.set
    ∙ (ap (λ n. item_in (slice_set xs c.place is) (place_of other n)) (length-set xs c.place is)
    ∙ stays (place_of other (length xs)) refl)
  where
    stays : (o : Option ℕ) → place_of other (length xs) ≡ o → item_in (slice_set xs c.place is) o ≡ item_in xs o
    stays None e = refl
    stays (Some place) e =
        put_else xs c.place place is (λ same. apart (number_of other (length xs) place e ∙ (ap suc same ∙ sym (number_of number (length xs) c.place c.numbered))))

-- what is told of it
pub map_or_found : {X Y : Type 0} (none : Y) (f : X → Y) (xs : List X) (number : ℕ) (x : X) → item xs number ≡ Some x → map_or none f (item xs number) ≡ f x
map_or_found none f xs number x at = ap (map_or none f) at

-- what is the same of the one and the other is told as before of all
pub map_or_kept : {X Y : Type 0} (none : Y) (f : X → Y) (xs ys : List X) (number : ℕ) (was is : X) (other : ℕ)
    → IsChangedAt xs number was is ys → f is ≡ f was → map_or none f (item ys other) ≡ map_or none f (item xs other)
map_or_kept none f xs ys number was is other c same =
    ⊎_elim (λ (e : other ≡ number).
    ap (λ n. map_or none f (item ys n)) e
    ∙ (map_or_found none f ys number is (is_at xs ys number was is c)
    ∙ (same ∙ (sym (map_or_found none f xs number was (was_at xs ys number was is c)) ∙ ap (λ n. map_or none f (item xs n)) (sym e)))))
    (λ (apart : other ≡ number → ⊥). ap (map_or none f) (else_at xs ys number was is other c apart))
    (same_number other number)
