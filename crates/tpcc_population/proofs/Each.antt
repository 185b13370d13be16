-- Laws of rows laid out by numbers: order of keys, selection, sums and look-ups.
use Rattle.std.proofs.Common.{◌≡◌, ◌≢◌, ℕ, zero, suc, ◌+◌, ◌*◌, ◌<◌, ◌≤◌, Bool, true, false, List, [], ◌∷◌, ◌++◌, length, map, refl, ap, ◌∙◌, ⊎_elim, append-nil, append_assoc, sym, subst, ◌-◌, length-append, suc-mul, arith}
use Rattle.std.specs.Prelude.{◌==◌, max, min, sum_by, ℤ, pos, filter, find, ◌&&◌, not, Some, None}
use Rattle.std.specs.List.{list_all, range_with_len}
use Rattle.std.proofs.lemmas.Int.{ints}
use Rattle.std.proofs.lemmas.Bool.{cases_eq}
use Rattle.std.proofs.lemmas.Bool.Decides.{nat_tests}
use Rattle.std.proofs.lemmas.List.Sums.{sum_by-append}
use Rattle.std.proofs.lemmas.List.Folds.{list_all-append}
use Rattle.tpcc_money.specs.Amounts.{total}
use Rattle.tpcc_rows.specs.Lists.{key_before, is_ascending, largest, smallest, larger, smaller}
use Rattle.tpcc_rows.specs.Layout.{each, one_each}
use Rattle.tpcc_laws.proofs.List.{list_all-mono, filter-append, total-append}

-- ---- what holds of each part holds of all rows

pub all-each : {X : Type 0} (p : X → Bool) (rows : ℕ → List X) (low count : ℕ) → ((j : ℕ) → low ≤ j → j < low + count → list_all p (rows j) ≡ true) → list_all p (each low count rows) ≡ true
all-each p rows low zero h = refl
all-each p rows low (suc count) h =
    let first = h low (omega arith) (omega arith) in
    let later = all-each p rows (low + 1) count (λ j a b. h j (omega arith) (omega arith)) in
    grind (arith, first, later, list_all-append p (rows low) (each (low + 1) count rows))

pub all-one : {X : Type 0} (p : X → Bool) (x : X) → p x ≡ true → list_all p (x ∷ []) ≡ true
all-one p x h = grind (arith, h)

-- one more number at the end
pub each-more : {X : Type 0} (rows : ℕ → List X) (low count : ℕ) → each low (suc count) rows ≡ each low count rows ++ rows (low + count)
each-more rows low zero = append-nil (rows low) ∙ ap rows (omega arith)
each-more rows low (suc count) =
    let same : low + 1 + count ≡ low + suc count = omega arith in
    (λ i. rows low ++ each-more rows (low + 1) count i) ∙ (λ i. rows low ++ (each (low + 1) count rows ++ rows (same i))) ∙ sym (append_assoc (rows low) (each (low + 1) count rows) (rows (low + suc count)))

-- the rows up to a number, and those of that number
pub each-next : {X : Type 0} (rows : ℕ → List X) (low next : ℕ) → low ≤ next → each low (next - low) rows ++ rows next ≡ each low (next + 1 - low) rows
each-next rows low next h =
    let count : next + 1 - low ≡ suc (next - low) = omega arith in
    let place : low + (next - low) ≡ next = omega arith in
    sym (ap (λ n. each low n rows) count ∙ each-more rows low (next - low) ∙ (λ i. each low (next - low) rows ++ rows (place i)))

-- the same behind what is there already
pub each-next_behind : {X : Type 0} (before : List X) (rows : ℕ → List X) (low next : ℕ) → low ≤ next → (before ++ each low (next - low) rows) ++ rows next ≡ before ++ each low (next + 1 - low) rows
each-next_behind before rows low next h = append_assoc before (each low (next - low) rows) (rows next) ∙ ap (λ xs. before ++ xs) (each-next rows low next h)

-- the rows of the first numbers, and those of the others
pub each-both : {X : Type 0} (rows : ℕ → List X) (low first others count : ℕ) → count ≡ first + others → each low count rows ≡ each low first rows ++ each (low + first) others rows
each-both rows low zero others count all =
    let from : low ≡ low + 0 = omega arith in
    let same : count ≡ others = omega arith in
    λ i. each (from i) (same i) rows
each-both rows low (suc first) others zero all = absurd (omega arith)
each-both rows low (suc first) others (suc count) all =
    let rest : count ≡ first + others = omega arith in
    let from : low + 1 + first ≡ low + suc first = omega arith in
    (λ i. rows low ++ each-both rows (low + 1) first others count rest i) ∙ (λ i. rows low ++ (each (low + 1) first rows ++ each (from i) others rows)) ∙ sym (append_assoc (rows low) (each (low + 1) first rows) (each (low + suc first) others rows))

-- what suits all rows, and with them those in front, suits the rows up to a number with those of that number
pub suits-next : {X : Type 0} (suits : List X → Type 0) → ((xs ys : List X) → suits (xs ++ ys) → suits xs) → (before : List X) (rows : ℕ → List X) (low next count : ℕ) → low ≤ next → next < low + count → suits (before ++ each low count rows) → suits ((before ++ each low (next - low) rows) ++ rows next)
suits-next suits front before rows low next count least most h =
    let first = next + 1 - low in
    let others = low + count - (next + 1) in
    let all : count ≡ first + others = omega arith in
    let front_rows = each low first rows in
    let other_rows = each (low + first) others rows in
    let both = ap (λ xs. before ++ xs) (each-both rows low first others count all) ∙ sym (append_assoc before front_rows other_rows) in
    subst suits (sym (each-next_behind before rows low next least)) (front (before ++ front_rows) other_rows (subst suits both h))

-- ---- keys that begin alike

-- the key begins with these numbers
abbrev pub begins : List ℕ → List ℕ → Bool
begins [] key = true
begins (n ∷ ns) [] = false
begins (n ∷ ns) (k ∷ ks) = (k == n) && begins ns ks

pub begins-shorter : (prefix : List ℕ) (n : ℕ) (key : List ℕ) → begins (prefix ++ n ∷ []) key ≡ true → begins prefix key ≡ true
begins-shorter [] n key h = refl
begins-shorter (p ∷ prefix) n [] h = h
begins-shorter (p ∷ prefix) n (k ∷ key) h = grind (arith, begins-shorter prefix n key)

pub begins-same : (prefix : List ℕ) (n m : ℕ) (key : List ℕ) → begins (prefix ++ n ∷ []) key ≡ true → begins (prefix ++ m ∷ []) key ≡ true → n ≡ m
begins-same [] n m [] h k = cc
begins-same [] n m (x ∷ key) h k = grind (arith, nat_tests)
begins-same (p ∷ prefix) n m [] h k = cc
begins-same (p ∷ prefix) n m (x ∷ key) h k = grind (arith, begins-same prefix n m key)

pub begins-before : (prefix : List ℕ) (n m : ℕ) (a b : List ℕ) → n < m → begins (prefix ++ n ∷ []) a ≡ true → begins (prefix ++ m ∷ []) b ≡ true → key_before a b ≡ true
begins-before [] n m [] b l h k = cc
begins-before [] n m (x ∷ a) [] l h k = cc
begins-before [] n m (x ∷ a) (y ∷ b) l h k = grind (arith, nat_tests)
begins-before (p ∷ prefix) n m [] b l h k = cc
begins-before (p ∷ prefix) n m (x ∷ a) [] l h k = cc
begins-before (p ∷ prefix) n m (x ∷ a) (y ∷ b) l h k = grind (arith, nat_tests, begins-before prefix n m a b)

-- ---- blocks: rows in ascending order whose keys all begin with the same numbers

pub record IsBlock {X : Type 0} (key : X → List ℕ) (prefix : List ℕ) (rows : List X) : Type 0 where
  pub under : list_all (λ x. begins prefix (key x)) rows ≡ true
  pub ascending : is_ascending key rows ≡ true

pub block-one : {X : Type 0} (key : X → List ℕ) (prefix : List ℕ) (x : X) → begins prefix (key x) ≡ true → IsBlock key prefix (x ∷ [])
block-one key prefix x h = record { under = all-one (λ y. begins prefix (key y)) x h; ascending = refl }

-- two lists one after the other
pub ascending-append : {X : Type 0} (key : X → List ℕ) (xs ys : List X) → is_ascending key xs ≡ true → is_ascending key ys ≡ true → list_all (λ x. list_all (λ y. key_before (key x) (key y)) ys) xs ≡ true → is_ascending key (xs ++ ys) ≡ true
ascending-append key [] ys h k l = k
ascending-append key (x ∷ xs) ys h k l = grind (arith, ascending-append key xs ys, list_all-append (λ y. key_before (key x) (key y)) xs ys)

-- rows under a lower number are before rows under a higher one
pub before-each : {X : Type 0} (key : X → List ℕ) (prefix : List ℕ) (n : ℕ) (x : X) (rows : ℕ → List X) (low count : ℕ) → n < low → begins (prefix ++ n ∷ []) (key x) ≡ true → ((j : ℕ) → low ≤ j → j < low + count → IsBlock key (prefix ++ j ∷ []) (rows j)) → list_all (λ y. key_before (key x) (key y)) (each low count rows) ≡ true
before-each key prefix n x rows low count l h blocks =
    all-each (λ y. key_before (key x) (key y)) rows low count
    (λ j a b. list_all-mono (λ y. begins (prefix ++ j ∷ []) (key y)) (λ y. key_before (key x) (key y)) (λ y e. begins-before prefix n j (key x) (key y) (omega arith) h e) (rows j) (blocks j a b).under)

pub ascending-each : {X : Type 0} (key : X → List ℕ) (prefix : List ℕ) (rows : ℕ → List X) (low count : ℕ) → ((j : ℕ) → low ≤ j → j < low + count → IsBlock key (prefix ++ j ∷ []) (rows j)) → is_ascending key (each low count rows) ≡ true
ascending-each key prefix rows low zero blocks = refl
ascending-each key prefix rows low (suc count) blocks =
    let first = blocks low (omega arith) (omega arith) in
    let others = λ (j : ℕ) (a : low + 1 ≤ j) (b : j < low + 1 + count). blocks j (omega arith) (omega arith) in
    ascending-append key (rows low) (each (low + 1) count rows) first.ascending
    (ascending-each key prefix rows (low + 1) count others)
    (list_all-mono (λ x. begins (prefix ++ low ∷ []) (key x)) (λ x. list_all (λ y. key_before (key x) (key y)) (each (low + 1) count rows)) (λ x e. before-each key prefix low x rows (low + 1) count (omega arith) e others) (rows low) first.under)

pub block-each : {X : Type 0} (key : X → List ℕ) (prefix : List ℕ) (rows : ℕ → List X) (low count : ℕ) → ((j : ℕ) → low ≤ j → j < low + count → IsBlock key (prefix ++ j ∷ []) (rows j)) → IsBlock key prefix (each low count rows)
block-each key prefix rows low count blocks =
    record {
      under =
          all-each (λ x. begins prefix (key x)) rows low count
          (λ j a b. list_all-mono (λ x. begins (prefix ++ j ∷ []) (key x)) (λ x. begins prefix (key x)) (λ x. begins-shorter prefix j (key x)) (rows j) (blocks j a b).under);
      ascending = ascending-each key prefix rows low count blocks;
    }

-- ---- selection by a key's beginning

pub filter-none : {X : Type 0} (p : X → Bool) (xs : List X) → list_all (λ x. not (p x)) xs ≡ true → filter p xs ≡ []
filter-none p [] h = refl
filter-none p (x ∷ xs) h = grind (arith, filter-none p xs)

pub filter-whole : {X : Type 0} (p : X → Bool) (xs : List X) → list_all p xs ≡ true → filter p xs ≡ xs
filter-whole p [] h = refl
filter-whole p (x ∷ xs) h = grind (arith, filter-whole p xs)

-- a test that asks for another number passes none of a block
not_apart : (prefix : List ℕ) (n m : ℕ) (key : List ℕ) (passes : Bool) → n ≢ m → begins (prefix ++ n ∷ []) key ≡ true → (passes ≡ true → begins (prefix ++ m ∷ []) key ≡ true) → not passes ≡ true
not_apart prefix n m key true apart h only = absurd (apart (begins-same prefix n m key h (only refl)))
not_apart prefix n m key false apart h only = refl

pub filter-apart : {X : Type 0} (key : X → List ℕ) (prefix : List ℕ) (n m : ℕ) (p : X → Bool) (xs : List X) → n ≢ m → IsBlock key (prefix ++ n ∷ []) xs → ((x : X) → p x ≡ true → begins (prefix ++ m ∷ []) (key x) ≡ true) → filter p xs ≡ []
filter-apart key prefix n m p xs apart block only =
    filter-none p xs (list_all-mono (λ x. begins (prefix ++ n ∷ []) (key x)) (λ x. not (p x)) (λ x h. not_apart prefix n m (key x) (p x) apart h (only x)) xs block.under)

-- a number that no part has
pub filter-each_absent : {X : Type 0} (key : X → List ℕ) (prefix : List ℕ) (m : ℕ) (p : X → Bool) (rows : ℕ → List X) (low count : ℕ) → ((j : ℕ) → low ≤ j → j < low + count → IsBlock key (prefix ++ j ∷ []) (rows j)) → ((x : X) → p x ≡ true → begins (prefix ++ m ∷ []) (key x) ≡ true) → ((j : ℕ) → low ≤ j → j < low + count → j ≢ m) → filter p (each low count rows) ≡ []
filter-each_absent key prefix m p rows low zero blocks only out = refl
filter-each_absent key prefix m p rows low (suc count) blocks only out =
    let first = filter-apart key prefix low m p (rows low) (out low (omega arith) (omega arith)) (blocks low (omega arith) (omega arith)) only in
    let later = filter-each_absent key prefix m p rows (low + 1) count (λ j a b. blocks j (omega arith) (omega arith)) only (λ j a b. out j (omega arith) (omega arith)) in
    filter-append p (rows low) (each (low + 1) count rows) ∙ (λ i. first i ++ later i)

-- a number that one part has
pub filter-each : {X : Type 0} (key : X → List ℕ) (prefix : List ℕ) (m : ℕ) (p : X → Bool) (rows : ℕ → List X) (low count : ℕ) → ((j : ℕ) → low ≤ j → j < low + count → IsBlock key (prefix ++ j ∷ []) (rows j)) → ((x : X) → p x ≡ true → begins (prefix ++ m ∷ []) (key x) ≡ true) → low ≤ m → m < low + count → filter p (each low count rows) ≡ filter p (rows m)
filter-each key prefix m p rows low zero blocks only a b = absurd (omega arith)
filter-each key prefix m p rows low (suc count) blocks only a b =
    let others = λ (j : ℕ) (c : low + 1 ≤ j) (e : j < low + 1 + count). blocks j (omega arith) (omega arith) in
    ⊎_elim
    (λ (e : low ≡ m).
    let later = filter-each_absent key prefix m p rows (low + 1) count others only (λ j c f g. absurd (omega arith)) in
    filter-append p (rows low) (each (low + 1) count rows) ∙ (λ i. filter p (rows (e i)) ++ later i) ∙ append-nil (filter p (rows m)))
    (λ (e : low ≡ m → ⊥).
    let first = filter-apart key prefix low m p (rows low) e (blocks low (omega arith) (omega arith)) only in
    let later = filter-each key prefix m p rows (low + 1) count others only (omega arith) (omega arith) in
    filter-append p (rows low) (each (low + 1) count rows) ∙ (λ i. first i ++ later i))
    (cases_eq low m)

-- one row for each number: the row of the number that is asked for
pub filter-one_each : {X : Type 0} (key : X → List ℕ) (prefix : List ℕ) (m : ℕ) (p : X → Bool) (row : ℕ → X) (low count : ℕ) → ((j : ℕ) → begins (prefix ++ j ∷ []) (key (row j)) ≡ true) → ((x : X) → p x ≡ true → begins (prefix ++ m ∷ []) (key x) ≡ true) → p (row m) ≡ true → low ≤ m → m < low + count → filter p (one_each low count row) ≡ row m ∷ []
filter-one_each key prefix m p row low count keys only here a b =
    filter-each key prefix m p (λ j. row j ∷ []) low count (λ j c d. block-one key (prefix ++ j ∷ []) (row j) (keys j)) only a b
    ∙ filter-whole p (row m ∷ []) (all-one p (row m) here)

-- ---- sums

pub total-each : {X : Type 0} (column : X → ℤ) (a : ℕ) (rows : ℕ → List X) (low count : ℕ) → ((j : ℕ) → total column (rows j) ≡ pos a) → total column (each low count rows) ≡ pos (count * a)
total-each column a rows low zero h = omega (arith, ints)
total-each column a rows low (suc count) h =
    omega (arith, ints, suc-mul count a, h low, total-append column (rows low) (each (low + 1) count rows), total-each column a rows (low + 1) count h)

pub total-one : {X : Type 0} (column : X → ℤ) (x : X) (a : ℤ) → column x ≡ a → total column (x ∷ []) ≡ a
total-one column x a h = omega (arith, ints)

-- where the rows that pass have the amount zero
pub zero-each : {X : Type 0} (column : X → ℤ) (p : X → Bool) (rows : ℕ → List X) (low count : ℕ) → ((j : ℕ) → total column (filter p (rows j)) ≡ pos 0) → total column (filter p (each low count rows)) ≡ pos 0
zero-each column p rows low zero h = refl
zero-each column p rows low (suc count) h =
    let both = filter-append p (rows low) (each (low + 1) count rows) in
    ap (total column) both ∙ omega (arith, ints, h low, total-append column (filter p (rows low)) (filter p (each (low + 1) count rows)), zero-each column p rows (low + 1) count h)

pub zero-one : {X : Type 0} (column : X → ℤ) (p : X → Bool) (x : X) → (p x ≡ true → column x ≡ pos 0) → total column (filter p (x ∷ [])) ≡ pos 0
zero-one column p x h = grind (arith, ints)

pub total-zero : {X : Type 0} (column : X → ℤ) → ((x : X) → column x ≡ pos 0) → (xs : List X) → total column xs ≡ pos 0
total-zero column h [] = refl
total-zero column h (x ∷ xs) = omega (arith, ints, h x, total-zero column h xs)

-- ---- numbers

pub map-one_each : {X : Type 0} (column : X → ℕ) (row : ℕ → X) (low count : ℕ) → ((j : ℕ) → column (row j) ≡ j) → map column (one_each low count row) ≡ range_with_len low count
map-one_each column row low zero h = refl
map-one_each column row low (suc count) h = λ i. h low i ∷ map-one_each column row (low + 1) count h i

pub length-one_each : {X : Type 0} (row : ℕ → X) (low count : ℕ) → length (one_each low count row) ≡ count
length-one_each row low zero = refl
length-one_each row low (suc count) = ap suc (length-one_each row (low + 1) count)

-- as many in one table as a sum in the other
pub length-each : {X Y : Type 0} (size : X → ℕ) (rows : ℕ → List X) (parts : ℕ → List Y) (low count : ℕ) → ((j : ℕ) → sum_by size (rows j) ≡ length (parts j)) → sum_by size (each low count rows) ≡ length (each low count parts)
length-each size rows parts low zero h = refl
length-each size rows parts low (suc count) h =
    omega (arith, h low, sum_by-append size (rows low) (each (low + 1) count rows), length-append (parts low) (each (low + 1) count parts), length-each size rows parts (low + 1) count h)

larger-above : (low n : ℕ) → max low (low + 1 + n) ≡ low + suc n
larger-above low n = omega arith

smaller-below : (low : ℕ) → min low (low + 1) ≡ low
smaller-below low = omega arith

pub largest-range : (low n : ℕ) → largest (range_with_len low (suc n)) ≡ Some (low + n)
largest-range low zero = ap Some (omega arith)
largest-range low (suc n) = ap (λ m. Some (larger low m)) (largest-range (low + 1) n) ∙ ap Some (larger-above low n)

pub smallest-range : (low n : ℕ) → smallest (range_with_len low (suc n)) ≡ Some low
smallest-range low zero = refl
smallest-range low (suc n) = ap (λ m. Some (smaller low m)) (smallest-range (low + 1) n) ∙ ap Some (smaller-below low)

-- ---- look-ups

first_is_found : {X : Type 0} (p : X → Bool) (x y : X) (xs : List X) → p y ≡ true → filter p (y ∷ xs) ≡ x ∷ [] → find p (y ∷ xs) ≡ Some x
first_is_found p x y xs h e = grind (arith)

first_is_passed : {X : Type 0} (p : X → Bool) (x y : X) (xs : List X) → p y ≡ false → filter p (y ∷ xs) ≡ x ∷ [] → filter p xs ≡ x ∷ []
first_is_passed p x y xs h e = grind (arith)

pub find-from_filter : {X : Type 0} (p : X → Bool) (x : X) (xs : List X) → filter p xs ≡ x ∷ [] → find p xs ≡ Some x
find-from_filter p x [] h = cc
find-from_filter p x (y ∷ xs) h = grind (arith, first_is_found p x y xs, first_is_passed p x y xs, find-from_filter p x xs)

pub find-from_none : {X : Type 0} (p : X → Bool) (xs : List X) → filter p xs ≡ [] → find p xs ≡ None
find-from_none p [] h = refl
find-from_none p (x ∷ xs) h = grind (arith, find-from_none p xs)
