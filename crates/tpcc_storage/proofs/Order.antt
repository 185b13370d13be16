-- Lists in the order of a test: after an insertion and a filter, and that the order and the counts decide a list.
use Rattle.std.proofs.Common.{◌≡◌, ◌∙◌, ℕ, zero, suc, ◌<◌, ◌≤◌, Bool, true, false, cond, List, [], ◌∷◌, length, get_or, refl, ap, sym, arith}
use Rattle.std.specs.Prelude.{◌&&◌, not, filter, sum_by, if◌then◌else◌}
use Rattle.std.specs.List.{list_all}
use Rattle.std.specs.Cmp.{IsTotalOrder, IsStrictWeakOrder}
use Rattle.std.specs.declared.cmp.Ordering.{Ordering}
use Rattle.std.specs.Ordering.{is_lt}
use Rattle.std.specs.Fn.{Mut, Called, ComparesAs}
use Rattle.std.proofs.Common.{Bor}
use Rattle.std.proofs.lemmas.Fn.{always_returns_same}
use Rattle.std.specs.List.Sorted.{IsPartitionedBy, IsPermutation, IsSortedBy}
use Rattle.std.proofs.lemmas.List.Sorted.{ranks_by, sorted_far, sum_by-IsPermutation}
use Rattle.std.proofs.lemmas.List.Sums.{sum_by-cons}
use Rattle.std.proofs.lemmas.Grind.{common_steps}
use Rattle.tpcc_rows.specs.Lists.{inserted, inserted_all, sorted}
use Rattle.tpcc_laws.proofs.List.{list_all-mono}
use Rattle.tpcc_laws.proofs.Insert.{list_all-inserted, length-inserted_all}
use Rattle.tpcc_rows.proofs.Booleans.{split, both_true}
use Rattle.tpcc_storage.specs.Internal.Names.{is_in_order}

both : (b : Bool) → b ≡ true → b ≡ false → ⊥
both true e f = cc
both false e f = cc

all_from : {X : Type 0} (p : X → Bool) (xs : List X) (j : ℕ) (d : X) → list_all p xs ≡ true → j < length xs → p (get_or xs j d) ≡ true
all_from p [] j d h lt = absurd (omega arith)
all_from p (x ∷ xs) zero d h lt = grind arith
all_from p (x ∷ xs) (suc j) d h lt = grind (arith, all_from p xs j d)

list_all-filter : {X : Type 0} (p q : X → Bool) (xs : List X) → list_all p xs ≡ true → list_all p (filter q xs) ≡ true
list_all-filter p q [] h = refl
list_all-filter p q (x ∷ xs) h = grind (arith, list_all-filter p q xs)

pub in_order-filter : {X : Type 0} (before : X → X → Bool) (q : X → Bool) (xs : List X) → is_in_order before xs ≡ true → is_in_order before (filter q xs) ≡ true
in_order-filter before q [] h = refl
in_order-filter before q (x ∷ xs) h = grind (arith, in_order-filter before q xs, list_all-filter (λ later. not (before later x)) q xs)

-- a test that passes each element that is not after one that passes stands for a front
pub front_of : {X : Type 0} (before : X → X → Bool) (p : X → Bool) → ((x y : X) → before y x ≡ false → p y ≡ true → p x ≡ true) → (xs : List X) → is_in_order before xs ≡ true → IsPartitionedBy p xs
front_of before p falls [] h i j d le lt e = absurd (omega arith)
front_of before p falls (x ∷ xs) h zero zero d le lt e = e
front_of before p falls (x ∷ xs) h zero (suc j) d le lt e =
    let s = split (list_all (λ later. not (before later x)) xs) (is_in_order before xs) h in
    let above : not (before (get_or xs j d) x) ≡ true = all_from (λ later. not (before later x)) xs j d s.0 (omega arith) in
    let low : before (get_or xs j d) x ≡ false = grind (arith, above) in
    falls x (get_or xs j d) low e
front_of before p falls (x ∷ xs) h (suc i) zero d le lt e = absurd (omega arith)
front_of before p falls (x ∷ xs) h (suc i) (suc j) d le lt e =
    let s = split (list_all (λ later. not (before later x)) xs) (is_in_order before xs) h in
    front_of before p falls xs s.1 i j d (omega arith) (omega arith) e

module _ {X : Type 0} (before : X → X → Bool) (o : IsStrictWeakOrder before) where
  lower : (x y z : X) → before x y ≡ true → not (before z y) ≡ true → not (before z x) ≡ true
  lower x y z h k =
      let e : before z y ≡ false = grind (arith, k) in
      let f : before z x ≡ false = o.chain z y x e (o.one_way x y h) in
      grind (arith, f)

  insert_step : (new x : X) (xs : List X) (b : Bool) → before new x ≡ b → is_in_order before (x ∷ xs) ≡ true → is_in_order before (inserted before new xs) ≡ true → is_in_order before (if b then new ∷ x ∷ xs else x ∷ inserted before new xs) ≡ true
  insert_step new x xs true e h rest =
      let back : before x new ≡ false = o.one_way new x e in
      let above : list_all (λ later. not (before later x)) xs ≡ true = grind (arith, h) in
      let far : list_all (λ later. not (before later new)) xs ≡ true = list_all-mono (λ later. not (before later x)) (λ later. not (before later new)) (λ z k. lower new x z e k) xs above in
      grind (arith, back, far, h)
  insert_step new x xs false e h rest =
      let above : list_all (λ later. not (before later x)) xs ≡ true = grind (arith, h) in
      grind (arith, e, above, rest, list_all-inserted before (λ later. not (before later x)) new xs)

  pub in_order-inserted : (new : X) (xs : List X) → is_in_order before xs ≡ true → is_in_order before (inserted before new xs) ≡ true
  in_order-inserted new [] h = refl
  in_order-inserted new (x ∷ xs) h =
      let s = split (list_all (λ later. not (before later x)) xs) (is_in_order before xs) h in
      insert_step new x xs (before new x) refl h (in_order-inserted new xs s.1)

  in_order-inserted_all : (news xs : List X) → is_in_order before xs ≡ true → is_in_order before (inserted_all before news xs) ≡ true
  in_order-inserted_all [] xs h = h
  in_order-inserted_all (new ∷ news) xs h = in_order-inserted_all news (inserted before new xs) (in_order-inserted new xs h)

  pub in_order-sorted : (xs : List X) → is_in_order before (sorted before xs) ≡ true
  in_order-sorted xs = in_order-inserted_all xs [] refl

  -- what a new element does not come before stands in front
  not_after_falls : (new x y : X) → before y x ≡ false → not (before new y) ≡ true → not (before new x) ≡ true
  not_after_falls new x y low h =
      let e : before new y ≡ false = grind (arith, h) in
      let f : before new x ≡ false = o.chain new y x e low in
      grind (arith, f)

  pub not_after : (new : X) (xs : List X) → is_in_order before xs ≡ true → IsPartitionedBy (λ x. not (before new x)) xs
  not_after new xs h = front_of before (λ x. not (before new x)) (not_after_falls new) xs h

  -- ---- the order and the counts decide a list

  abbrev pub ties : X → X → Bool
  ties x y = not (before x y) && not (before y x)

  ties_itself : (x : X) → ties x x ≡ true
  ties_itself x = by (before x x) refl
    where
      by : (b : Bool) → before x x ≡ b → (not b && not b) ≡ true
      by true e = absurd (both (before x x) e (o.one_way x x e))
      by false e = refl

  -- nothing in a list that begins after x ties with it
  none_ties : (x y : X) (ys : List X) → before x y ≡ true → list_all (λ later. not (before later y)) ys ≡ true → length (filter (ties x) ys) ≡ 0
  none_ties x y [] h k = refl
  none_ties x y (z ∷ ys) h k =
      let here : not (before z y) ≡ true = grind (arith, k) in
      let rest : list_all (λ later. not (before later y)) ys ≡ true = grind (arith, k) in
      let below : before x z ≡ true = under z here in
      grind (arith, below, none_ties x y ys h rest)
    where
      under : (z : X) → not (before z y) ≡ true → before x z ≡ true
      under z here = by (before x z) refl
        where
          by : (b : Bool) → before x z ≡ b → b ≡ true
          by true e = refl
          by false e =
              let f : before z y ≡ false = grind (arith, here) in
              absurd (both (before x y) h (o.chain x z y e f))

  count_rest : (q : X → Bool) (x : X) (xs ys : List X) → length (filter q (x ∷ xs)) ≡ length (filter q (x ∷ ys)) → length (filter q xs) ≡ length (filter q ys)
  count_rest q x xs ys e = by (q x) e
    where
      by : (b : Bool) → length (cond b (x ∷ filter q xs) (filter q xs)) ≡ length (cond b (x ∷ filter q ys) (filter q ys)) → length (filter q xs) ≡ length (filter q ys)
      by true f = omega (arith, f)
      by false f = f

  no_count : (x y : X) (xs ys : List X) → before x y ≡ true → is_in_order before (y ∷ ys) ≡ true → ((q : X → Bool) → length (filter q (x ∷ xs)) ≡ length (filter q (y ∷ ys))) → ⊥
  no_count x y xs ys h up same =
      let s = split (list_all (λ later. not (before later y)) ys) (is_in_order before ys) up in
      let first : ties x y ≡ false = grind (arith, h) in
      let none : length (filter (ties x) (y ∷ ys)) ≡ 0 = (λ i. length (cond (first i) (y ∷ filter (ties x) ys) (filter (ties x) ys))) ∙ none_ties x y ys h s.0 in
      let one : length (filter (ties x) (x ∷ xs)) ≡ suc (length (filter (ties x) xs)) = λ i. length (cond (ties_itself x i) (x ∷ filter (ties x) xs) (filter (ties x) xs)) in
      omega (arith, same (ties x), none, one)

  pub one_order : ((x y : X) → before x y ≡ false → before y x ≡ false → x ≡ y) → (xs ys : List X) → is_in_order before xs ≡ true → is_in_order before ys ≡ true → ((q : X → Bool) → length (filter q xs) ≡ length (filter q ys)) → xs ≡ ys
  one_order tied [] [] h k same = refl
  one_order tied [] (y ∷ ys) h k same = let e : 0 ≡ length (filter (λ z. true) (y ∷ ys)) = same (λ z. true) in absurd (omega (arith, e))
  one_order tied (x ∷ xs) [] h k same = let e : length (filter (λ z. true) (x ∷ xs)) ≡ 0 = same (λ z. true) in absurd (omega (arith, e))
  one_order tied (x ∷ xs) (y ∷ ys) h k same = by (before x y) (before y x) refl refl (one_order tied xs ys hs.1 ks.1)
    where
      hs : (list_all (λ later. not (before later x)) xs ≡ true) × (is_in_order before xs ≡ true)
      hs = split (list_all (λ later. not (before later x)) xs) (is_in_order before xs) h

      ks : (list_all (λ later. not (before later y)) ys ≡ true) × (is_in_order before ys ≡ true)
      ks = split (list_all (λ later. not (before later y)) ys) (is_in_order before ys) k

      by : (a b : Bool) → before x y ≡ a → before y x ≡ b → (((q : X → Bool) → length (filter q xs) ≡ length (filter q ys)) → xs ≡ ys) → (x ∷ xs) ≡ (y ∷ ys)
      by true b e f rest = absurd (no_count x y xs ys e k same)
      by false true e f rest = absurd (no_count y x ys xs f h (λ q. sym (same q)))
      by false false e f rest =
          let first : x ≡ y = tied x y e f in
          let counts : (q : X → Bool) → length (filter q xs) ≡ length (filter q ys) = λ q. count_rest q x xs ys (same q ∙ (λ i. length (filter q (sym first i ∷ ys)))) in
          λ i. first i ∷ rest counts i

  pub count-sorted : (q : X → Bool) (xs : List X) → length (filter q (sorted before xs)) ≡ length (filter q xs)
  count-sorted q xs = omega (arith, length-inserted_all before q xs [])

  -- a list in order that counts as another is that one sorted
  pub sorted_is : ((x y : X) → before x y ≡ false → before y x ≡ false → x ≡ y) → (xs ys : List X) → is_in_order before ys ≡ true → ((q : X → Bool) → length (filter q ys) ≡ length (filter q xs)) → ys ≡ sorted before xs
  sorted_is tied xs ys h same = one_order tied ys (sorted before xs) h (in_order-sorted xs) (λ q. same q ∙ sym (count-sorted q xs))

-- ---- a list that was sorted in place

all_to : {X : Type 0} (p : X → Bool) (xs : List X) → ((j : ℕ) (d : X) → j < length xs → p (get_or xs j d) ≡ true) → list_all p xs ≡ true
all_to p [] h = refl
all_to p (x ∷ xs) h =
    let here : p x ≡ true = h 0 x (omega arith) in
    let rest : list_all p xs ≡ true = all_to p xs (λ j d lt. h (suc j) d (omega arith)) in
    grind (arith, here, rest)

in_order_from : {X : Type 0} (before : X → X → Bool) (xs : List X) → ((i j : ℕ) (d : X) → i ≤ j → j < length xs → before (get_or xs j d) (get_or xs i d) ≡ false) → is_in_order before xs ≡ true
in_order_from before [] h = refl
in_order_from before (x ∷ xs) h =
    both_true (list_all (λ later. not (before later x)) xs) (is_in_order before xs)
    (all_to (λ later. not (before later x)) xs (λ j d lt. ap not (h 0 (suc j) d (omega arith) (omega arith))))
    (in_order_from before xs (λ i j d le lt. h (suc i) (suc j) d (omega arith) (omega arith)))

pub in_order-from_sort : {X : Type 0} (before : X → X → Bool) → IsStrictWeakOrder before → (xs : List X) → IsSortedBy before xs → is_in_order before xs ≡ true
in_order-from_sort before o xs up = in_order_from before xs (λ i j d le lt. sorted_far before o xs up i j d le lt)

-- from the clause of `sort_unstable_by`, where each call compares the two elements by R
pub in_order-from_sort_by : {X : Type 0} (R : X → X → Ordering) → IsTotalOrder R → {F : Type 0} {g : Mut F (Bor X × (Bor X × Unit {0})) Ordering} {f : F} (xs : List X)
    → ((lt : X → X → Bool) → IsStrictWeakOrder lt → ComparesAs g lt f → IsSortedBy lt xs)
    → ((a : Bor X × (Bor X × Unit {0})) (r : Ordering) (f' : F) → Called g f a r f' → (r ≡ R a.0.now a.1.0.now) × (f' ≡ f))
    → is_in_order (λ x y. is_lt (R x y)) xs ≡ true
in_order-from_sort_by {X = X} R total {g = g} {f = f} xs up compared =
    let lt : X → X → Bool = λ x y. is_lt (R x y) in
    in_order-from_sort lt (ranks_by total (λ x. x)) xs (up lt (ranks_by total (λ x. x)) (always_returns_same g (λ a r. is_lt r ≡ is_lt (R a.0.now a.1.0.now)) f (λ a r f' k. (ap is_lt (compared a r f' k).0, (compared a r f' k).1))))

count_terms : {X : Type 0} (q : X → Bool) (xs : List X) → length (filter q xs) ≡ sum_by (λ x. cond (q x) 1 0) xs
count_terms q [] = refl
count_terms q (x ∷ xs) = grind (arith, common_steps, sum_by-cons (λ x. cond (q x) 1 0), count_terms q xs)

pub count_moved : {X : Type 0} (q : X → Bool) (xs ys : List X) → IsPermutation xs ys → length (filter q ys) ≡ length (filter q xs)
count_moved q xs ys moved = count_terms q ys ∙ sum_by-IsPermutation (λ x. cond (q x) 1 0) xs ys moved ∙ sym (count_terms q xs)
