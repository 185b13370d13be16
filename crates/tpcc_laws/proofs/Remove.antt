-- Laws of removed and changed rows, and of rising numbers.
use Rattle.std.proofs.Common.{◌≡◌, ℕ, ◌+◌, ◌≤◌, Bool, true, false, List, [], ◌∷◌, length, map, refl, ap, ◌∙◌, arith}
use Rattle.std.specs.Prelude.{ℤ, ◌+ℤ◌, filter, if◌then◌else◌, ◌&&◌, ◌==◌, not, nat_lt, Some, is_some, find, option_map, sum_by}
use Rattle.std.specs.List.{list_all, list_any}
use Rattle.std.proofs.lemmas.Int.{ints}
use Rattle.std.proofs.lemmas.Bool.Decides.{nat_tests}
use Rattle.std.proofs.lemmas.List.Sums.{sum_by-cons}
use Rattle.tpcc_money.specs.Amounts.{total}
use Rattle.tpcc_rows.specs.Lists.{updated, largest, smallest, larger, smaller}
use Rattle.tpcc_laws.proofs.List.{has_one}

-- ---- what a look-up finds

pub found_passes : {X : Type 0} (p test : X → Bool) (xs : List X) (y : X) → find p xs ≡ Some y → list_all test xs ≡ true → (p y ≡ true) × (test y ≡ true)
found_passes p test [] y e h = cc
found_passes p test (x ∷ xs) y e h = (grind (arith, found_passes p test xs y), grind (arith, found_passes p test xs y))

-- ---- rows removed

pub filter-removed_other : {X : Type 0} (q p : X → Bool) → ((x : X) → p x ≡ true → q x ≡ false) → (xs : List X) → filter q (filter (λ x. not (p x)) xs) ≡ filter q xs
filter-removed_other q p apart [] = refl
filter-removed_other q p apart (x ∷ xs) = grind (arith, apart x, filter-removed_other q p apart xs)

pub find-removed_other : {X : Type 0} (q p : X → Bool) → ((x : X) → p x ≡ true → q x ≡ false) → (xs : List X) → find q (filter (λ x. not (p x)) xs) ≡ find q xs
find-removed_other q p apart [] = refl
find-removed_other q p apart (x ∷ xs) = grind (arith, apart x, find-removed_other q p apart xs)

pub find-removed : {X : Type 0} (q p : X → Bool) → ((x : X) → q x ≡ true → p x ≡ true) → (xs : List X) → is_some (find q (filter (λ x. not (p x)) xs)) ≡ false
find-removed q p within [] = refl
find-removed q p within (x ∷ xs) = grind (arith, within x, find-removed q p within xs)

-- ---- rows changed

pub find-updated_other : {X : Type 0} (q p : X → Bool) (change : X → X) → ((x : X) → p x ≡ true → (q x ≡ false) × (q (change x) ≡ false)) → (xs : List X) → find q (updated p change xs) ≡ find q xs
find-updated_other q p change apart [] = refl
find-updated_other q p change apart (x ∷ xs) = grind (arith, apart x, find-updated_other q p change apart xs)

pub find-updated_self : {X : Type 0} (p : X → Bool) (change : X → X) → ((x : X) → p (change x) ≡ p x) → (xs : List X) → find p (updated p change xs) ≡ option_map change (find p xs)
find-updated_self p change same [] = refl
find-updated_self p change same (x ∷ xs) = grind (arith, same x, find-updated_self p change same xs)

pub length-updated_same : {X : Type 0} (q p : X → Bool) (change : X → X) → ((x : X) → q (change x) ≡ q x) → (xs : List X) → length (filter q (updated p change xs)) ≡ length (filter q xs)
length-updated_same q p change same [] = refl
length-updated_same q p change same (x ∷ xs) = grind (arith, same x, length-updated_same q p change same xs)

pub sum_by-updated_same : {X : Type 0} (column : X → ℕ) (q p : X → Bool) (change : X → X) → ((x : X) → (q (change x) ≡ q x) × (column (change x) ≡ column x)) → (xs : List X) → sum_by column (filter q (updated p change xs)) ≡ sum_by column (filter q xs)
sum_by-updated_same column q p change same [] = refl
sum_by-updated_same {X} column q p change same (x ∷ xs) = grind (arith, sum_by-cons {X = X}, same x, sum_by-updated_same column q p change same xs)

pub map-updated_same : {X : Type 0} (f : X → ℕ) (q p : X → Bool) (change : X → X) → ((x : X) → (q (change x) ≡ q x) × (f (change x) ≡ f x)) → (xs : List X) → map f (filter q (updated p change xs)) ≡ map f (filter q xs)
map-updated_same f q p change same [] = refl
map-updated_same f q p change same (x ∷ xs) = grind (arith, same x, map-updated_same f q p change same xs)

-- all rows that pass are changed so that they pass a second test too
pub total-updated_all : {X : Type 0} (column : X → ℤ) (p q : X → Bool) (change : X → X) → ((x : X) → p x ≡ true → (p (change x) ≡ true) × (q (change x) ≡ true) × (column (change x) ≡ column x)) → (xs : List X) → total column (filter (λ x. p x && q x) (updated p change xs)) ≡ total column (filter p xs)
total-updated_all column p q change all [] = refl
total-updated_all column p q change all (x ∷ xs) = grind (arith, ints, all x, total-updated_all column p q change all xs)

-- a column that changes at one row
pub total-changed_absent : {X : Type 0} (f g : X → ℤ) (p q : X → Bool) → ((x : X) → p x ≡ false → f x ≡ g x) → (xs : List X) → list_any p xs ≡ false → total f (filter q xs) ≡ total g (filter q xs)
total-changed_absent f g p q same [] none = refl
total-changed_absent f g p q same (x ∷ xs) none = grind (arith, ints, same x, total-changed_absent f g p q same xs)

changed_first : {X : Type 0} (f g : X → ℤ) (q : X → Bool) (a : ℤ) (x : X) (xs : List X) → f x ≡ g x +ℤ a → total f (filter q xs) ≡ total g (filter q xs) → total f (filter q (x ∷ xs)) ≡ (if q x then total g (filter q (x ∷ xs)) +ℤ a else total g (filter q (x ∷ xs)))
changed_first f g q a x xs e rest = grind (arith, ints)

changed_later : {X : Type 0} (f g : X → ℤ) (q : X → Bool) (a : ℤ) (x : X) (xs : List X) (here : Bool) → f x ≡ g x → total f (filter q xs) ≡ (if here then total g (filter q xs) +ℤ a else total g (filter q xs)) → total f (filter q (x ∷ xs)) ≡ (if here then total g (filter q (x ∷ xs)) +ℤ a else total g (filter q (x ∷ xs)))
changed_later f g q a x xs true e rest = grind (arith, ints)
changed_later f g q a x xs false e rest = grind (arith, ints)

one_first : {X : Type 0} (p : X → Bool) (x : X) (xs : List X) (y : X) → p x ≡ true → has_one p (x ∷ xs) ≡ true → find p (x ∷ xs) ≡ Some y → (list_any p xs ≡ false) × (x ≡ y)
one_first p x xs y here one e = (grind arith, grind arith)

one_later : {X : Type 0} (p : X → Bool) (x : X) (xs : List X) (y : X) → p x ≡ false → has_one p (x ∷ xs) ≡ true → find p (x ∷ xs) ≡ Some y → (has_one p xs ≡ true) × (find p xs ≡ Some y)
one_later p x xs y other one e = (grind arith, grind arith)

pub total-changed_one : {X : Type 0} (f g : X → ℤ) (p q : X → Bool) (a : ℤ) → ((x : X) → p x ≡ false → f x ≡ g x) → ((x : X) → p x ≡ true → f x ≡ g x +ℤ a) → (xs : List X) → has_one p xs ≡ true → (y : X) → find p xs ≡ Some y → total f (filter q xs) ≡ (if q y then total g (filter q xs) +ℤ a else total g (filter q xs))
total-changed_one f g p q a same more [] one y e = cc
total-changed_one f g p q a same more (x ∷ xs) one y e =
    elim (p x) as (λ b. p x ≡ b → total f (filter q (x ∷ xs)) ≡ (if q y then total g (filter q (x ∷ xs)) +ℤ a else total g (filter q (x ∷ xs)))) [
      | true ↦ λ here.
          let first = one_first p x xs y here one e in
          changed_first f g q a x xs (more x here) (total-changed_absent f g p q same xs first.0)
          ∙ ap (λ z. if q z then total g (filter q (x ∷ xs)) +ℤ a else total g (filter q (x ∷ xs))) first.1
      | false ↦ λ other.
          let later = one_later p x xs y other one e in
          changed_later f g q a x xs (q y) (same x other) (total-changed_one f g p q a same more xs later.0 y later.1)
    ] refl

-- ---- rising numbers

abbrev pub is_rising : List ℕ → Bool
is_rising [] = true
is_rising (n ∷ ns) = list_all (nat_lt n) ns && is_rising ns

pub above-smallest : (n : ℕ) (ns : List ℕ) → list_all (nat_lt n) ns ≡ true → smaller n (smallest ns) ≡ n
above-smallest n [] h = refl
above-smallest n (m ∷ ms) h = grind (arith, nat_tests, above-smallest n ms)

pub filter-above : (n : ℕ) (ns : List ℕ) → list_all (nat_lt n) ns ≡ true → filter (λ m. not (m == n)) ns ≡ ns
filter-above n [] h = refl
filter-above n (m ∷ ms) h = grind (arith, nat_tests, filter-above n ms)

pub rising-span : (m : ℕ) (ms : List ℕ) → is_rising (m ∷ ms) ≡ true → m + length (m ∷ ms) ≤ larger m (largest ms) + 1
rising-span m [] h = omega arith
rising-span m (k ∷ ks) h = grind (arith, nat_tests, rising-span k ks)
