-- Rows that lie side by side: those past one front of a list and within another.
use Rattle.std.proofs.Common.{◌≡◌, ◌∙◌, ℕ, zero, suc, ◌+◌, ◌-◌, ◌<◌, ◌≤◌, Bool, true, false, cond, List, [], ◌∷◌, ◌++◌, length, take, drop, get_or, set, map, refl, ap, sym, arith}
use Rattle.std.specs.Prelude.{◌&&◌, not, filter}
use Rattle.std.specs.List.{prefix_len, list_any}
use Rattle.std.specs.List.Sorted.{IsPartitionedBy}
use Rattle.tpcc_rows.specs.Lists.{updated}

later : {X : Type 0} (p : X → Bool) (x : X) (xs : List X) → IsPartitionedBy p (x ∷ xs) → IsPartitionedBy p xs
later p x xs h i j d le lt e = h (suc i) (suc j) d (omega arith) (omega arith) e

fails_next : {X : Type 0} (p : X → Bool) (x y : X) (ys : List X) → IsPartitionedBy p (x ∷ y ∷ ys) → p x ≡ false → p y ≡ false
fails_next p x y ys h e = by (p y) refl
  where
    by : (b : Bool) → p y ≡ b → b ≡ false
    by true is = let here : p x ≡ true = h 0 1 x (omega arith) (omega arith) is in sym here ∙ e
    by false is = refl

no_front : {X : Type 0} (p : X → Bool) (x : X) (xs : List X) → IsPartitionedBy p (x ∷ xs) → p x ≡ false → prefix_len p xs ≡ 0
no_front p x [] h e = refl
no_front p x (y ∷ ys) h e = let next : p y ≡ false = fails_next p x y ys h e in grind (arith, next)

none_past : {X : Type 0} (p : X → Bool) (x : X) (xs : List X) → IsPartitionedBy p (x ∷ xs) → p x ≡ false → list_any p xs ≡ false
none_past p x [] h e = refl
none_past p x (y ∷ ys) h e =
    let next : p y ≡ false = fails_next p x y ys h e in
    let rest : list_any p ys ≡ false = none_past p y ys (later p x (y ∷ ys) h) next in
    grind (arith, next, rest)

filter_none : {X : Type 0} (p q : X → Bool) (xs : List X) → list_any q xs ≡ false → filter (λ x. q x && not (p x)) xs ≡ []
filter_none p q [] h = refl
filter_none p q (x ∷ xs) h = grind (arith, filter_none p q xs)

abbrev pub within : {X : Type 0} → (X → Bool) → (X → Bool) → X → Bool
within p q x = q x && not (p x)

both_on : {X : Type 0} (x : X) (xs rest : List X) (m n : ℕ) → take (n - m) (drop m xs) ≡ rest → take (1 + n - (1 + m)) (drop (1 + m) (x ∷ xs)) ≡ rest
both_on x xs rest m n e =
    let less : 1 + n - (1 + m) ≡ n - m = omega arith in
    let one : 1 + m ≡ suc m = omega arith in
    (λ i. take (less i) (drop (one i) (x ∷ xs))) ∙ e

here_first : {X : Type 0} (x : X) (xs rest : List X) (m n : ℕ) → m ≡ 0 → take (n - m) (drop m xs) ≡ rest → take (1 + n - 0) (x ∷ xs) ≡ x ∷ rest
here_first x xs rest m n z e =
    let one : 1 + n - 0 ≡ suc (n - m) = omega arith in
    (λ i. take (one i) (x ∷ xs)) ∙ ap (λ k. x ∷ take (n - m) (drop k xs)) (sym z) ∙ ap (λ r. x ∷ r) e

run_step : {X : Type 0} (p q : X → Bool) → ((x : X) → p x ≡ true → q x ≡ true) → (x : X) (xs : List X) → IsPartitionedBy p (x ∷ xs) → IsPartitionedBy q (x ∷ xs) → take (prefix_len q xs - prefix_len p xs) (drop (prefix_len p xs) xs) ≡ filter (within p q) xs
    → (a b : Bool) → p x ≡ a → q x ≡ b → take (cond b (1 + prefix_len q xs) 0 - cond a (1 + prefix_len p xs) 0) (drop (cond a (1 + prefix_len p xs) 0) (x ∷ xs)) ≡ cond (b && not a) (x ∷ filter (within p q) xs) (filter (within p q) xs)
run_step p q more x xs hp hq rest true true e f = both_on x xs (filter (within p q) xs) (prefix_len p xs) (prefix_len q xs) rest
run_step p q more x xs hp hq rest true false e f = let g : q x ≡ true = more x e in cc
run_step p q more x xs hp hq rest false true e f = here_first x xs (filter (within p q) xs) (prefix_len p xs) (prefix_len q xs) (no_front p x xs hp e) rest
run_step p q more x xs hp hq rest false false e f = sym (filter_none p q xs (none_past q x xs hq f))

-- the rows past the front where p passes, within the front where q does
pub run_is : {X : Type 0} (p q : X → Bool) → ((x : X) → p x ≡ true → q x ≡ true) → (xs : List X) → IsPartitionedBy p xs → IsPartitionedBy q xs → take (prefix_len q xs - prefix_len p xs) (drop (prefix_len p xs) xs) ≡ filter (within p q) xs
run_is p q more [] hp hq = refl
run_is p q more (x ∷ xs) hp hq = run_step p q more x xs hp hq (run_is p q more xs (later p x xs hp) (later q x xs hq)) (p x) (q x) refl refl

-- the front of fewer is shorter
pub front_within : {X : Type 0} (p q : X → Bool) → ((x : X) → p x ≡ true → q x ≡ true) → (xs : List X) → prefix_len p xs ≤ prefix_len q xs
front_within p q more [] = omega arith
front_within p q more (x ∷ xs) = grind (arith, more x, front_within p q more xs)

pub same_filter : {X : Type 0} (p q : X → Bool) → ((x : X) → p x ≡ q x) → (xs : List X) → filter p xs ≡ filter q xs
same_filter p q same [] = refl
same_filter p q same (x ∷ xs) = λ i. cond (same x i) (x ∷ same_filter p q same xs i) (same_filter p q same xs i)

pub same_updated : {X : Type 0} (p q : X → Bool) (change : X → X) → ((x : X) → p x ≡ q x) → (xs : List X) → updated p change xs ≡ updated q change xs
same_updated p q change same [] = refl
same_updated p q change same (x ∷ xs) = λ i. cond (same x i) (change x) x ∷ same_updated p q change same xs i

-- ---- those rows changed

unchanged : {X : Type 0} (p q : X → Bool) (change : X → X) (xs : List X) → list_any q xs ≡ false → xs ≡ updated (within p q) change xs
unchanged p q change [] h = refl
unchanged p q change (x ∷ xs) h = grind (arith, unchanged p q change xs)

abbrev pub changed : {X : Type 0} → (X → X) → ℕ → ℕ → List X → List X
changed change m k xs = take m xs ++ (map change (take k (drop m xs)) ++ drop k (drop m xs))

one_kept : {X : Type 0} (change : X → X) (x : X) (xs rest : List X) (m n : ℕ) → changed change m (n - m) xs ≡ rest → changed change (1 + m) (1 + n - (1 + m)) (x ∷ xs) ≡ x ∷ rest
one_kept change x xs rest m n e =
    let less : 1 + n - (1 + m) ≡ n - m = omega arith in
    let one : 1 + m ≡ suc m = omega arith in
    (λ i. changed change (one i) (less i) (x ∷ xs)) ∙ ap (λ r. x ∷ r) e

one_changed : {X : Type 0} (change : X → X) (x : X) (xs rest : List X) (m n : ℕ) → m ≡ 0 → changed change m (n - m) xs ≡ rest → changed change 0 (1 + n - 0) (x ∷ xs) ≡ change x ∷ rest
one_changed change x xs rest m n z e =
    let one : 1 + n - 0 ≡ suc (n - m) = omega arith in
    (λ i. changed change 0 (one i) (x ∷ xs)) ∙ ap (λ k. change x ∷ changed change k (n - m) xs) (sym z) ∙ ap (λ r. change x ∷ r) e

change_step : {X : Type 0} (p q : X → Bool) (change : X → X) → ((x : X) → p x ≡ true → q x ≡ true) → (x : X) (xs : List X) → IsPartitionedBy p (x ∷ xs) → IsPartitionedBy q (x ∷ xs) → changed change (prefix_len p xs) (prefix_len q xs - prefix_len p xs) xs ≡ updated (within p q) change xs
    → (a b : Bool) → p x ≡ a → q x ≡ b → changed change (cond a (1 + prefix_len p xs) 0) (cond b (1 + prefix_len q xs) 0 - cond a (1 + prefix_len p xs) 0) (x ∷ xs) ≡ cond (b && not a) (change x) x ∷ updated (within p q) change xs
change_step p q change more x xs hp hq rest true true e f = one_kept change x xs (updated (within p q) change xs) (prefix_len p xs) (prefix_len q xs) rest
change_step p q change more x xs hp hq rest true false e f = let g : q x ≡ true = more x e in cc
change_step p q change more x xs hp hq rest false true e f = one_changed change x xs (updated (within p q) change xs) (prefix_len p xs) (prefix_len q xs) (no_front p x xs hp e) rest
change_step p q change more x xs hp hq rest false false e f = ap (λ r. x ∷ r) (unchanged p q change xs (none_past q x xs hq f))

pub run_changed : {X : Type 0} (p q : X → Bool) (change : X → X) → ((x : X) → p x ≡ true → q x ≡ true) → (xs : List X) → IsPartitionedBy p xs → IsPartitionedBy q xs → changed change (prefix_len p xs) (prefix_len q xs - prefix_len p xs) xs ≡ updated (within p q) change xs
run_changed p q change more [] hp hq = refl
run_changed p q change more (x ∷ xs) hp hq = change_step p q change more x xs hp hq (run_changed p q change more xs (later p x xs hp) (later q x xs hq)) (p x) (q x) refl refl

mapped_next : {X : Type 0} (change : X → X) (xs : List X) (i : ℕ) (d : X) → i < length xs → set (map change (take i xs) ++ drop i xs) i (change (get_or (map change (take i xs) ++ drop i xs) i d)) ≡ map change (take (suc i) xs) ++ drop (suc i) xs
mapped_next change [] i d lt = absurd (omega arith)
mapped_next change (x ∷ xs) zero d lt = refl
mapped_next change (x ∷ xs) (suc i) d lt = ap (λ ys. change x ∷ ys) (mapped_next change xs i d (omega arith))

-- the rows up to a place changed, and one more
pub mapped_more : {X : Type 0} (change : X → X) (xs ys : List X) (i : ℕ) (d : X) → i < length xs → ys ≡ map change (take i xs) ++ drop i xs → set ys i (change (get_or ys i d)) ≡ map change (take (i + 1) xs) ++ drop (i + 1) xs
mapped_more change xs ys i d lt e =
    let next : suc i ≡ i + 1 = omega arith in
    (λ j. set (e j) i (change (get_or (e j) i d))) ∙ mapped_next change xs i d lt ∙ (λ j. map change (take (next j) xs) ++ drop (next j) xs)

pub mapped_all : {X : Type 0} (change : X → X) (xs : List X) (i : ℕ) → length xs ≤ i → map change (take i xs) ++ drop i xs ≡ map change xs
mapped_all change [] zero lt = refl
mapped_all change [] (suc i) lt = refl
mapped_all change (x ∷ xs) zero lt = absurd (omega arith)
mapped_all change (x ∷ xs) (suc i) lt = ap (λ ys. change x ∷ ys) (mapped_all change xs i (omega arith))

-- ---- a front, one element after another

-- an element that passes, at the end of what is known of the front
pub front_grows : {X : Type 0} (p : X → Bool) (xs : List X) (i : ℕ) (d : X) → i ≤ prefix_len p xs → i < length xs → p (get_or xs i d) ≡ true → i + 1 ≤ prefix_len p xs
front_grows p [] i d le lt e = absurd (omega arith)
front_grows p (x ∷ xs) zero d le lt e = grind (arith, e)
front_grows p (x ∷ xs) (suc i) d le lt e = grind (arith, front_grows p xs i d)

-- an element that fails there is the first that does
pub front_ends : {X : Type 0} (p : X → Bool) (xs : List X) (i : ℕ) (d : X) → i ≤ prefix_len p xs → i < length xs → p (get_or xs i d) ≡ false → i ≡ prefix_len p xs
front_ends p [] i d le lt e = absurd (omega arith)
front_ends p (x ∷ xs) zero d le lt e = grind (arith, e)
front_ends p (x ∷ xs) (suc i) d le lt e = grind (arith, front_ends p xs i d)
