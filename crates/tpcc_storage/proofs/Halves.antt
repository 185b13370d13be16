-- Searches by halves in ascending rows.
use Rattle.std.proofs.Common.{◌≡◌, ◌∙◌, ℕ, zero, suc, ◌+◌, ◌-◌, ◌<◌, ◌≤◌, Bool, true, false, cond, List, [], ◌∷◌, refl, ap, sym, arith, slice_get, get_or, length, take, Some, None}
use Rattle.std.specs.Prelude.{nat_lt, not, find, position}
use Rattle.std.specs.List.{list_all, list_any, prefix_len, position_or_len}
use Rattle.std.specs.List.Sorted.{IsPartitionPoint, IsPartitionedBy}
use Rattle.std.proofs.lemmas.Bool.Decides.{nat_tests}
use Rattle.tpcc_rows.specs.Lists.{is_ascending, key_before, inserted, inserted_all, by_key}
use Rattle.tpcc_laws.proofs.OrderKeys.{key_before_trans}
use Rattle.tpcc_laws.proofs.Insert.{list_all-inserted}
use Rattle.tpcc_storage.specs.Searches.{is_same_key}
use Rattle.tpcc_storage.proofs.Keys.{same_keys}
use Rattle.tpcc_storage.proofs.Place.{none_before}

pub all_at : {X : Type 0} (test : X → Bool) (xs : List X) (j : ℕ) (d : X) → list_all test xs ≡ true → j < length xs → test (get_or xs j d) ≡ true
all_at test [] j d h lt = absurd (omega arith)
all_at test (x ∷ xs) zero d h lt = grind arith
all_at test (x ∷ xs) (suc j) d h lt = grind (arith, all_at test xs j d)

not_before : (k a b : List ℕ) → key_before a b ≡ true → not (key_before k b) ≡ true → not (key_before k a) ≡ true
not_before k a b h e = grind (arith, key_before_trans k a b)

-- a test that passes each row before one that passes stands for the front of ascending rows
pub in_front : {X : Type 0} (columns : X → List ℕ) (p : X → Bool) → ((x y : X) → key_before (columns x) (columns y) ≡ true → p y ≡ true → p x ≡ true) → (xs : List X) → is_ascending columns xs ≡ true → IsPartitionedBy p xs
in_front columns p falls [] h i j d le lt e = absurd (omega arith)
in_front columns p falls (x ∷ xs) h zero zero d le lt e = e
in_front columns p falls (x ∷ xs) h zero (suc j) d le lt e =
    let above : list_all (λ later. key_before (columns x) (columns later)) xs ≡ true = grind arith in
    falls x (get_or xs j d) (all_at (λ later. key_before (columns x) (columns later)) xs j d above (omega arith)) e
in_front columns p falls (x ∷ xs) h (suc i) zero d le lt e = absurd (omega arith)
in_front columns p falls (x ∷ xs) h (suc i) (suc j) d le lt e =
    let rest : is_ascending columns xs ≡ true = grind arith in
    in_front columns p falls xs rest i j d (omega arith) (omega arith) e

pub not_after : {X : Type 0} (columns : X → List ℕ) (k : List ℕ) (xs : List X) → is_ascending columns xs ≡ true → IsPartitionedBy (λ x. not (key_before k (columns x))) xs
not_after columns k xs h = in_front columns (λ x. not (key_before k (columns x))) (λ x y b e. not_before k (columns x) (columns y) b e) xs h

pub before_key : {X : Type 0} (columns : X → List ℕ) (k : List ℕ) (xs : List X) → is_ascending columns xs ≡ true → IsPartitionedBy (λ x. key_before (columns x) k) xs
before_key columns k xs h = in_front columns (λ x. key_before (columns x) k) (λ x y b e. key_before_trans (columns x) (columns y) k b e) xs h

-- the place where rows stop to pass is the length of the front that passes
pub place_is_prefix : {X : Type 0} (p : X → Bool) (xs : List X) (i : ℕ) → i ≤ length xs → IsPartitionPoint (λ y. p y ≡ true) (λ y. p y ≡ false) xs i → i ≡ prefix_len p xs
place_is_prefix p [] i le h = omega arith
place_is_prefix p (x ∷ xs) zero le h =
    let e : p x ≡ false = h.1 zero x (omega arith) (omega arith) in
    grind (arith, e)
place_is_prefix p (x ∷ xs) (suc i) le h =
    let e : p x ≡ true = h.0 zero x (omega arith) (omega arith) in
    let rest : i ≡ prefix_len p xs = place_is_prefix p xs i (omega arith) ((λ k d lo hi. h.0 (suc k) d (omega arith) (omega arith)), (λ k d lo hi. h.1 (suc k) d (omega arith) (omega arith))) in
    grind (arith, e, rest)

-- ---- keys

pub apart_before : (a b : List ℕ) → key_before a b ≡ true → is_same_key a b ≡ false
apart_before [] b h = cc
apart_before (k ∷ ks) [] h = cc
apart_before (k ∷ ks) (l ∷ ls) h = grind (arith, nat_tests, apart_before ks ls)

apart_after : (a b k : List ℕ) → key_before a b ≡ true → key_before a k ≡ false → is_same_key b k ≡ false
apart_after [] b k h e = cc
apart_after (x ∷ a) [] k h e = cc
apart_after (x ∷ a) (y ∷ b) [] h e = cc
apart_after (x ∷ a) (y ∷ b) (z ∷ k) h e = grind (arith, nat_tests, apart_after a b k)

-- ---- the row of a key is the first that does not stand before it

-- the row at a place
pub at_place : {X : Type 0} (d : X) (xs : List X) (i : ℕ) (o : X) → slice_get xs i ≡ Some o → (i < length xs) × (o ≡ get_or xs i d)
at_place d [] i o e = cc
at_place d (x ∷ xs) zero o e = (omega arith, cc)
at_place d (x ∷ xs) (suc i) o e = let rest = at_place d xs i o e in (omega (arith, rest.0), rest.1)

get_later : {X : Type 0} (x : X) (xs : List X) (n : ℕ) → slice_get (x ∷ xs) (1 + n) ≡ slice_get xs n
get_later x xs n = let e : 1 + n ≡ suc n = omega arith in λ i. slice_get (x ∷ xs) (e i)

abbrev pub stands_before : {X : Type 0} → (X → List ℕ) → List ℕ → X → Bool
stands_before columns k x = key_before (columns x) k

abbrev pub is_it : {X : Type 0} → (X → List ℕ) → List ℕ → X → Bool
is_it columns k x = is_same_key (columns x) k

found_front : {X : Type 0} (columns : X → List ℕ) (k : List ℕ) (xs : List X) (o : X) → slice_get xs (prefix_len (stands_before columns k) xs) ≡ Some o → is_it columns k o ≡ true → position_or_len (is_it columns k) xs ≡ prefix_len (stands_before columns k) xs
found_front columns k [] o at e = cc
found_front {X = X} columns k (x ∷ xs) o at e = by (stands_before columns k x) refl at (found_front columns k xs o)
  where
    by : (b : Bool) → stands_before columns k x ≡ b → slice_get (x ∷ xs) (cond b (1 + prefix_len (stands_before columns k) xs) 0) ≡ Some o → (slice_get xs (prefix_len (stands_before columns k) xs) ≡ Some o → is_it columns k o ≡ true → position_or_len (is_it columns k) xs ≡ prefix_len (stands_before columns k) xs) → position_or_len (is_it columns k) (x ∷ xs) ≡ cond b (1 + prefix_len (stands_before columns k) xs) 0
    by true is at next =
        let other : is_it columns k x ≡ false = apart_before (columns x) k is in
        let rest = next (sym (get_later x xs (prefix_len (stands_before columns k) xs)) ∙ at) e in
        (λ i. cond (not (other i)) (1 + position_or_len (is_it columns k) xs) 0) ∙ ap (λ n. 1 + n) rest
    by false is at next =
        let same : x ≡ o = cc in
        let here : is_it columns k x ≡ true = ap (is_it columns k) same ∙ e in
        λ i. cond (not (here i)) (1 + position_or_len (is_it columns k) xs) 0

pub one_longer : {X : Type 0} (p : X → Bool) (x : X) (xs : List X) → p x ≡ false → position_or_len p xs ≡ length xs → position_or_len p (x ∷ xs) ≡ length (x ∷ xs)
one_longer p x xs e rest =
    let longer : 1 + length xs ≡ length (x ∷ xs) = omega arith in
    (λ i. cond (not (e i)) (1 + rest i) 0) ∙ longer

none_later : {X : Type 0} (columns : X → List ℕ) (k : List ℕ) (x : X) (xs : List X) → list_all (λ later. key_before (columns x) (columns later)) xs ≡ true → stands_before columns k x ≡ false → position_or_len (is_it columns k) xs ≡ length xs
none_later columns k x [] up e = refl
none_later columns k x (y ∷ xs) up e =
    let above : key_before (columns x) (columns y) ≡ true = grind arith in
    let rest : list_all (λ later. key_before (columns x) (columns later)) xs ≡ true = grind arith in
    let other : is_it columns k y ≡ false = apart_after (columns x) (columns y) k above e in
    one_longer (is_it columns k) y xs other (none_later columns k x xs rest e)

none_front : {X : Type 0} (columns : X → List ℕ) (k : List ℕ) (xs : List X) → is_ascending columns xs ≡ true → ((o : X) → slice_get xs (prefix_len (stands_before columns k) xs) ≡ Some o → is_it columns k o ≡ false) → position_or_len (is_it columns k) xs ≡ length xs
none_front columns k [] up gap = refl
none_front {X = X} columns k (x ∷ xs) up gap = by (stands_before columns k x) refl gap (none_front columns k xs rest)
  where
    rest : is_ascending columns xs ≡ true
    rest = grind (arith, up)

    above : list_all (λ later. key_before (columns x) (columns later)) xs ≡ true
    above = grind (arith, up)

    by : (b : Bool) → stands_before columns k x ≡ b → ((o : X) → slice_get (x ∷ xs) (cond b (1 + prefix_len (stands_before columns k) xs) 0) ≡ Some o → is_it columns k o ≡ false) → (((o : X) → slice_get xs (prefix_len (stands_before columns k) xs) ≡ Some o → is_it columns k o ≡ false) → position_or_len (is_it columns k) xs ≡ length xs) → position_or_len (is_it columns k) (x ∷ xs) ≡ length (x ∷ xs)
    by true is gap next =
        let other : is_it columns k x ≡ false = apart_before (columns x) k is in
        let later = next (λ o at. gap o (get_later x xs (prefix_len (stands_before columns k) xs) ∙ at)) in
        one_longer (is_it columns k) x xs other later
    by false is gap next =
        let other : is_it columns k x ≡ false = gap x refl in
        one_longer (is_it columns k) x xs other (none_later columns k x xs above is)

position_is : {X : Type 0} (passes : X → Bool) (xs : List X) (n : ℕ) → position_or_len passes xs ≡ n → n < length xs → position passes xs ≡ Some n
position_is passes xs n e lt = grind (arith, nat_tests)

pub position_is_none : {X : Type 0} (passes : X → Bool) (xs : List X) → position_or_len passes xs ≡ length xs → position passes xs ≡ None
position_is_none passes xs e = grind (arith, nat_tests)

-- what a search by halves makes of the place that it found
pub halves_found : {X : Type 0} (columns : X → List ℕ) (k : List ℕ) (xs : List X) (i : ℕ) (o : X) → i ≡ prefix_len (stands_before columns k) xs → slice_get xs i ≡ Some o → is_it columns k o ≡ true → Some i ≡ position (is_it columns k) xs
halves_found columns k xs i o is at e =
    sym (position_is (is_it columns k) xs i (found_front columns k xs o (ap (slice_get xs) (sym is) ∙ at) e ∙ sym is) (at_place o xs i o at).0)

pub halves_other : {X : Type 0} (columns : X → List ℕ) (k : List ℕ) (xs : List X) (i : ℕ) (o : X) → is_ascending columns xs ≡ true → i ≡ prefix_len (stands_before columns k) xs → slice_get xs i ≡ Some o → is_it columns k o ≡ false → None ≡ position (is_it columns k) xs
halves_other {X = X} columns k xs i o up is at e = sym (position_is_none (is_it columns k) xs (none_front columns k xs up (λ y f. other y (ap (slice_get xs) is ∙ f))))
  where
    other : (y : X) → slice_get xs i ≡ Some y → is_it columns k y ≡ false
    other y f = let same : o ≡ y = cc in ap (is_it columns k) (sym same) ∙ e

pub halves_past : {X : Type 0} (columns : X → List ℕ) (k : List ℕ) (xs : List X) (i : ℕ) → is_ascending columns xs ≡ true → i ≡ prefix_len (stands_before columns k) xs → slice_get xs i ≡ None → None ≡ position (is_it columns k) xs
halves_past {X = X} columns k xs i up is at = sym (position_is_none (is_it columns k) xs (none_front columns k xs up (λ y f. past y (ap (slice_get xs) is ∙ f))))
  where
    past : (y : X) → slice_get xs i ≡ Some y → is_it columns k y ≡ false
    past y f = cc

-- the row of a key stands at one place alone
stood : {X : Type 0} (columns : X → List ℕ) (k : List ℕ) (xs : List X) (i : ℕ) (o : X) → is_ascending columns xs ≡ true → slice_get xs i ≡ Some o → is_it columns k o ≡ true → position_or_len (is_it columns k) xs ≡ i
stood columns k [] i o up at e = cc
stood columns k (x ∷ xs) zero o up at e =
    let same : x ≡ o = cc in
    let here : is_it columns k x ≡ true = ap (is_it columns k) same ∙ e in
    λ j. cond (not (here j)) (1 + position_or_len (is_it columns k) xs) 0
stood columns k (x ∷ xs) (suc i) o up at e =
    let rest : is_ascending columns xs ≡ true = grind arith in
    let above : list_all (λ later. key_before (columns x) (columns later)) xs ≡ true = grind arith in
    let there = at_place o xs i o at in
    let before : key_before (columns x) (columns o) ≡ true = ap (λ y. key_before (columns x) (columns y)) there.1 ∙ all_at (λ later. key_before (columns x) (columns later)) xs i o above there.0 in
    let other : is_it columns k x ≡ false = apart_before (columns x) k (ap (key_before (columns x)) (sym (same_keys (columns o) k e)) ∙ before) in
    let next : 1 + i ≡ suc i = omega arith in
    (λ j. cond (not (other j)) (1 + stood columns k xs i o rest at e j) 0) ∙ next

pub guessed_there : {X : Type 0} (columns : X → List ℕ) (k : List ℕ) (xs : List X) (i : ℕ) (o : X) → is_ascending columns xs ≡ true → slice_get xs i ≡ Some o → is_it columns k o ≡ true → Some i ≡ position (is_it columns k) xs
guessed_there columns k xs i o up at e = sym (position_is (is_it columns k) xs i (stood columns k xs i o up at e) (at_place o xs i o at).0)

-- rows of which the last does not come after a key all stand before one that does
pub all_in_front : {X : Type 0} (columns : X → List ℕ) (k : List ℕ) (xs : List X) (o : X) → is_ascending columns xs ≡ true → slice_get xs (length xs - 1) ≡ Some o → not (key_before k (columns o)) ≡ true → length xs ≡ prefix_len (λ x. not (key_before k (columns x))) xs
all_in_front {X = X} columns k xs o up at e = place_is_prefix p xs (length xs) (omega arith) ((λ i d lo hi. not_after columns k xs up i (length xs - 1) d (omega arith) (within d) (passes d)), (λ i d lo hi. absurd (omega arith)))
  where
    p : X → Bool
    p x = not (key_before k (columns x))

    within : (d : X) → length xs - 1 < length xs
    within d = (at_place d xs (length xs - 1) o at).0

    passes : (d : X) → p (get_or xs (length xs - 1) d) ≡ true
    passes d = sym (ap p (at_place d xs (length xs - 1) o at).1) ∙ e

pub some_at : {X : Type 0} (xs : List X) (i : ℕ) (o : X) → true ≡ nat_lt i (length xs) → o ≡ get_or xs i o → slice_get xs i ≡ Some o
some_at [] i o lt e = grind (arith, nat_tests)
some_at (x ∷ xs) zero o lt e = cc
some_at (x ∷ xs) (suc i) o lt e =
    let l : true ≡ nat_lt i (length xs) = grind (arith, nat_tests) in
    some_at xs i o l e

pub none_at : {X : Type 0} (xs : List X) (i : ℕ) → false ≡ nat_lt i (length xs) → slice_get xs i ≡ None
none_at [] i lt = refl
none_at (x ∷ xs) zero lt = grind (arith, nat_tests)
none_at (x ∷ xs) (suc i) lt =
    let l : false ≡ nat_lt i (length xs) = grind (arith, nat_tests) in
    none_at xs i l

pub none_found : {X : Type 0} (passes : X → Bool) (xs : List X) → list_any passes xs ≡ false → find passes xs ≡ None
none_found passes [] none = refl
none_found passes (x ∷ xs) none = grind (arith, none_found passes xs)

-- where no place was found there is no row
pub unfound : {X : Type 0} (passes : X → Bool) (xs : List X) → position passes xs ≡ None → find passes xs ≡ None
unfound passes xs none = none_found passes xs (none_before passes xs (list_any passes xs) refl none)

-- ---- rows in order before more were put among them

ascending-before : {X : Type 0} (key : X → List ℕ) (new : X) (xs : List X) → is_ascending key (inserted (by_key key) new xs) ≡ true → is_ascending key xs ≡ true
ascending-before key new [] h = refl
ascending-before key new (x ∷ xs) h = grind (arith, ascending-before key new xs, list_all-inserted (by_key key) (λ later. key_before (key x) (key later)) new xs)

ascending-before_all : {X : Type 0} (key : X → List ℕ) (news xs : List X) → is_ascending key (inserted_all (by_key key) news xs) ≡ true → is_ascending key xs ≡ true
ascending-before_all key [] xs h = h
ascending-before_all key (new ∷ news) xs h = ascending-before key new xs (ascending-before_all key news (inserted (by_key key) new xs) h)

-- rows are in order at each step where they are after all of them
pub ascending-so_far : {X : Type 0} (key : X → List ℕ) (n : ℕ) (news xs : List X) → is_ascending key (inserted_all (by_key key) news xs) ≡ true → is_ascending key (inserted_all (by_key key) (take n news) xs) ≡ true
ascending-so_far key zero news xs h = ascending-before_all key news xs h
ascending-so_far key (suc n) [] xs h = h
ascending-so_far key (suc n) (new ∷ news) xs h = ascending-so_far key n news (inserted (by_key key) new xs) h

-- ---- tests that are the same

pub same_find : {X : Type 0} (p q : X → Bool) → ((x : X) → p x ≡ q x) → (xs : List X) → find p xs ≡ find q xs
same_find p q same [] = refl
same_find p q same (x ∷ xs) = λ i. cond (same x i) (Some x) (same_find p q same xs i)
