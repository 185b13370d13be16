-- Values that are kept for the rows of a table: after a change of the table, and after a change of the values.
use Rattle.std.proofs.Common.{◌≡◌, ℕ, Bool, true, false, List, [], ◌∷◌, map, get_or, set, refl, sym, ap, ◌∙◌, arith, Option, Some, None}
use Rattle.std.specs.Prelude.{find, position, if◌then◌else◌, ◌==◌, ◌&&◌}
use Rattle.std.specs.List.{list_all}
use Rattle.std.specs.Option.{option_map}
use Rattle.tpcc_rows.specs.Lists.{updated, inserted, by_key, key_before, is_ascending}
use Rattle.tpcc_storage.specs.Searches.{is_same_key}
use Rattle.tpcc_storage.proofs.Keys.{same_keys, same_swapped, not_before_itself}
use Rattle.tpcc_laws.proofs.List.{list_all-map}
use Rattle.tpcc_storage.proofs.Shown.{ascending-shown}
use Rattle.tpcc_storage.proofs.Place.{written_row, unwritten}
use Rattle.tpcc_tables.specs.Internal.Sums.{has_key}

-- ---- the table changes

-- in columns that the values don't read
pub map-updated_same : {X V : Type 0} (value : X → V) (passes : X → Bool) (change : X → X) → ((x : X) → value (change x) ≡ value x) → (xs : List X) → map value (updated passes change xs) ≡ map value xs
map-updated_same value passes change same [] = refl
map-updated_same value passes change same (x ∷ xs) = grind (arith, same x, map-updated_same value passes change same xs)

-- by a new row
pub map-inserted : {X V : Type 0} (value : X → V) (key : X → List ℕ) (value_key : V → List ℕ) → ((x : X) → value_key (value x) ≡ key x) → (new : X) (xs : List X) → inserted (by_key value_key) (value new) (map value xs) ≡ map value (inserted (by_key key) new xs)
map-inserted value key value_key same new [] = refl
map-inserted value key value_key same new (x ∷ xs) =
    (λ i. if key_before (same new i) (same x i) then value new ∷ value x ∷ map value xs else value x ∷ inserted (by_key value_key) (value new) (map value xs))
    ∙ by_place (key_before (key new) (key x)) (map-inserted value key value_key same new xs)
  where
    by_place : (b : Bool) → inserted (by_key value_key) (value new) (map value xs) ≡ map value (inserted (by_key key) new xs) → (if b then value new ∷ value x ∷ map value xs else value x ∷ inserted (by_key value_key) (value new) (map value xs)) ≡ map value (if b then new ∷ x ∷ xs else x ∷ inserted (by_key key) new xs)
    by_place true rest = refl
    by_place false rest = ap (λ vs. value x ∷ vs) rest

-- ---- the values change

-- at the rows that a test picks
pub updated-map : {X V : Type 0} (old new : X → V) (passes : V → Bool) (change : V → V) → ((x : X) → new x ≡ (if passes (old x) then change (old x) else old x)) → (xs : List X) → updated passes change (map old xs) ≡ map new xs
updated-map old new passes change more [] = refl
updated-map old new passes change more (x ∷ xs) = λ i. sym (more x) i ∷ updated-map old new passes change more xs i

-- at no row
pub map-same : {X V : Type 0} (old new : X → V) → ((x : X) → old x ≡ new x) → (xs : List X) → map old xs ≡ map new xs
map-same old new same [] = refl
map-same old new same (x ∷ xs) = λ i. same x i ∷ map-same old new same xs i

-- the value of a row that a look-up finds
pub find-map : {X V : Type 0} (value : X → V) (p : X → Bool) (q : V → Bool) → ((x : X) → q (value x) ≡ p x) → (xs : List X) → find q (map value xs) ≡ option_map value (find p xs)
find-map value p q same [] = refl
find-map value p q same (x ∷ xs) = grind (arith, same x, find-map value p q same xs)

-- the values stand in the order of the rows
pub in_order : {X V : Type 0} (value : X → V) (value_key : V → List ℕ) (values : List V) (xs : List X) → values ≡ map value xs → is_ascending (λ x. value_key (value x)) xs ≡ true → is_ascending value_key values ≡ true
in_order value value_key values xs is keyed = ap (is_ascending value_key) is ∙ sym (ascending-shown value value_key xs) ∙ keyed

-- what holds of each value
pub each_value : {X V : Type 0} (value : X → V) (test : V → Bool) (values : List V) (xs : List X) → values ≡ map value xs → ((x : X) → test (value x) ≡ true) → list_all test values ≡ true
each_value value test values xs is each = ap (list_all test) is ∙ list_all-map test value each xs

-- ---- a choice

pub chosen : {A B : Type 0} (f : A → B) (b : Bool) (x y : A) → f (if b then x else y) ≡ (if b then f x else f y)
chosen f true x y = refl
chosen f false x y = refl

pub both_chosen : {A B C : Type 0} (f : A → B → C) (b : Bool) (x y : A) (u v : B) → f (if b then x else y) (if b then u else v) ≡ (if b then f x u else f y v)
both_chosen f true x y u v = refl
both_chosen f false x y u v = refl

-- ---- keys

-- no two entries have one key
pub entries_apart : {S : Type 0} (key : S → List ℕ) (numbers : List ℕ) (a b : S) → has_key key numbers a ≡ true → has_key key numbers b ≡ true → key_before (key a) (key b) ≡ false
entries_apart key numbers a b ea eb =
    (λ i. key_before (same_keys (key a) numbers ea i) (same_keys (key b) numbers eb i)) ∙ not_before_itself numbers

-- the entry of a key, changed at its place
pub entry_written : {S : Type 0} (key : S → List ℕ) (numbers : List ℕ) (change : S → S) (entries seen : List S) (found : Option ℕ) (place : ℕ) (y : S) → is_ascending key entries ≡ true → seen ≡ entries → found ≡ position (has_key key numbers) seen → found ≡ Some place → y ≡ get_or entries place y → set entries place (change y) ≡ updated (has_key key numbers) change entries
entry_written key numbers change entries seen found place y keyed same at is value =
    written_row key (has_key key numbers) (entries_apart key numbers) change entries place y keyed (ap (position (has_key key numbers)) (sym same) ∙ sym at ∙ is) value

pub entry_missing : {S : Type 0} (key : S → List ℕ) (numbers : List ℕ) (change : S → S) (entries seen : List S) (found : Option ℕ) → seen ≡ entries → found ≡ position (has_key key numbers) seen → found ≡ None → entries ≡ updated (has_key key numbers) change entries
entry_missing key numbers change entries seen found same at none = unwritten (has_key key numbers) change entries (ap (position (has_key key numbers)) (sym same) ∙ sym at ∙ none)

last_true : (a : Bool) → (a && true) ≡ a
last_true true = refl
last_true false = refl

and_three : (a b c : Bool) → (a && (b && (c && true))) ≡ ((a && b) && c)
and_three a b c = grind arith

-- an entry's key is the one that a row names
pub one_number : (a x : ℕ) → is_same_key (a ∷ []) (x ∷ []) ≡ (x == a)
one_number a x = same_swapped (a ∷ []) (x ∷ []) ∙ last_true (x == a)

pub two_numbers : (a b x y : ℕ) → is_same_key (a ∷ b ∷ []) (x ∷ y ∷ []) ≡ ((x == a) && (y == b))
two_numbers a b x y = same_swapped (a ∷ b ∷ []) (x ∷ y ∷ []) ∙ ap (λ t. (x == a) && t) (last_true (y == b))

pub three_numbers : (a b c x y z : ℕ) → is_same_key (a ∷ b ∷ c ∷ []) (x ∷ y ∷ z ∷ []) ≡ ((x == a) && (y == b) && (z == c))
three_numbers a b c x y z = same_swapped (a ∷ b ∷ c ∷ []) (x ∷ y ∷ z ∷ []) ∙ and_three (x == a) (y == b) (z == c)
