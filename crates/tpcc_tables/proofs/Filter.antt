-- Rows of an ascending table, selected by a number that rises with the key.
use Rattle.std.proofs.Common.{◌≡◌, ℕ, ◌+◌, Bool, true, false, List, [], ◌∷◌, ◌++◌, refl, arith, Option, Some, None}
use Rattle.std.specs.Prelude.{filter, find, ◌&&◌, ◌==◌, nat_lt, nat_le}
use Rattle.std.specs.List.{list_all, list_any}
use Rattle.std.specs.Option.{option_to_list}
use Rattle.std.proofs.lemmas.Bool.Decides.{nat_tests}
use Rattle.tpcc_rows.specs.Lists.{key_before, is_ascending}
use Rattle.tpcc_laws.proofs.List.{none_later}

-- the rows that pass, with a number below n, and those whose number is n
abbrev pub below : {X : Type 0} → (X → Bool) → (X → ℕ) → ℕ → X → Bool
below p number n x = p x && nat_lt (number x) n

abbrev pub exactly : {X : Type 0} → (X → Bool) → (X → ℕ) → ℕ → X → Bool
exactly p number n x = p x && (number x == n)

-- among the rows that pass, no later key has a lower number
abbrev pub Rises : {X : Type 0} → (X → List ℕ) → (X → Bool) → (X → ℕ) → Type 0
Rises {X} key p number = (x y : X) → p x ≡ true → p y ≡ true → key_before (key x) (key y) ≡ true → nat_le (number x) (number y) ≡ true

-- behind a row whose number is n or more no number is below n
none-below : {X : Type 0} (key : X → List ℕ) (p : X → Bool) (number : X → ℕ) → Rises key p number → (n : ℕ) (x : X) (xs : List X) → p x ≡ true → nat_lt (number x) n ≡ false → list_all (λ later. key_before (key x) (key later)) xs ≡ true → filter (below p number n) xs ≡ []
none-below key p number up n x [] h k all = refl
none-below key p number up n x (y ∷ xs) h k all = grind (arith, nat_tests, up x y, none-below key p number up n x xs)

-- the rows of the next number stand behind those of the numbers below it
pub filter-next : {X : Type 0} (key : X → List ℕ) (p : X → Bool) (number : X → ℕ) → Rises key p number → (n : ℕ) (xs : List X) → is_ascending key xs ≡ true → filter (below p number (n + 1)) xs ≡ filter (below p number n) xs ++ filter (exactly p number n) xs
filter-next key p number up n [] h = refl
filter-next key p number up n (x ∷ xs) h = grind (arith, nat_tests, none-below key p number up n x xs, filter-next key p number up n xs)

filter-absent : {X : Type 0} (q : X → Bool) (xs : List X) → list_any q xs ≡ false → filter q xs ≡ []
filter-absent q [] h = refl
filter-absent q (x ∷ xs) h = grind (arith, filter-absent q xs)

-- the rows of a key are the one that a look-up finds
pub filter-key : {X : Type 0} (key : X → List ℕ) (q : X → Bool) → ((x y : X) → q x ≡ true → q y ≡ true → key_before (key x) (key y) ≡ false) → (xs : List X) → is_ascending key xs ≡ true → filter q xs ≡ option_to_list (find q xs)
filter-key key q apart [] h = refl
filter-key key q apart (x ∷ xs) h = grind (arith, none_later key q apart x xs, filter-absent q xs, filter-key key q apart xs)

-- whether a row of the key passes a test is told by the one that a look-up finds
abbrev pub found_passes : {X : Type 0} → (X → Bool) → Option X → Bool
found_passes t None = false
found_passes t (Some x) = t x

any-absent : {X : Type 0} (q t : X → Bool) (xs : List X) → list_any q xs ≡ false → list_any (λ x. q x && t x) xs ≡ false
any-absent q t [] h = refl
any-absent q t (x ∷ xs) h = grind (arith, any-absent q t xs)

pub any-key : {X : Type 0} (key : X → List ℕ) (q t : X → Bool) → ((x y : X) → q x ≡ true → q y ≡ true → key_before (key x) (key y) ≡ false) → (xs : List X) → is_ascending key xs ≡ true → list_any (λ x. q x && t x) xs ≡ found_passes t (find q xs)
any-key key q t apart [] h = refl
any-key key q t apart (x ∷ xs) h = grind (arith, none_later key q apart x xs, any-absent q t xs, any-key key q t apart xs)

-- tests that agree on all rows select the same rows
pub filter-agree : {X : Type 0} (test p q : X → Bool) → ((x : X) → test x ≡ true → p x ≡ q x) → (xs : List X) → list_all test xs ≡ true → filter p xs ≡ filter q xs
filter-agree test p q agree [] h = refl
filter-agree test p q agree (x ∷ xs) h = grind (arith, agree x, filter-agree test p q agree xs)

pub filter-same : {X : Type 0} (p q : X → Bool) → ((x : X) → p x ≡ q x) → (xs : List X) → filter p xs ≡ filter q xs
filter-same p q same [] = refl
filter-same p q same (x ∷ xs) = grind (arith, same x, filter-same p q same xs)

pub filter-nothing : {X : Type 0} (p : X → Bool) → ((x : X) → p x ≡ false) → (xs : List X) → filter p xs ≡ []
filter-nothing p none [] = refl
filter-nothing p none (x ∷ xs) = grind (arith, none x, filter-nothing p none xs)

-- a selection from a selection
pub filter-twice : {X : Type 0} (p q : X → Bool) (xs : List X) → filter p (filter q xs) ≡ filter (λ x. q x && p x) xs
filter-twice p q [] = refl
filter-twice p q (x ∷ xs) = grind (arith, filter-twice p q xs)
