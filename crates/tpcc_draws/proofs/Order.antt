-- A shuffle of the numbers 1 to n has these numbers only, as many as before.
use Rattle.std.proofs.Common.{◌≡◌, ℕ, zero, suc, ◌+◌, ◌-◌, ◌<◌, ◌≤◌, Bool, true, false, List, [], ◌∷◌, length, get_or, set, refl, ◌∙◌, arith}
use Rattle.std.specs.Prelude.{slice_index, swap, nat_le, nat_lt, ◌&&◌, if◌then◌else◌}
use Rattle.std.specs.List.{list_all, range_with_len}
use Rattle.std.proofs.lemmas.Bool.Decides.{nat_tests}
use Rattle.std.proofs.lemmas.List.Edits.{length-swap}
use Rattle.std.proofs.lemmas.List.FromFn.{length-range_with_len}
use Rattle.rand_core.specs.Stream.{Stream}
use Rattle.rand.specs.Uniform.{usize_single}
use Rattle.rand.specs.Shuffle.{Chooser, chooser_at, chooser_next, narrow_swaps, wide_swaps}
use Rattle.tpcc_draws.specs.Draws.{permutation}
use Rattle.tpcc_draws.proofs.Draw.{all_at}

all_or : (p : ℕ → Bool) (xs : List ℕ) (i d : ℕ) → list_all p xs ≡ true → p d ≡ true → p (get_or xs i d) ≡ true
all_or p [] i d h k = k
all_or p (x ∷ xs) zero d h k = grind (arith)
all_or p (x ∷ xs) (suc i) d h k = all_or p xs i d (grind (arith)) k

all_set : (p : ℕ → Bool) (xs : List ℕ) (i x : ℕ) → list_all p xs ≡ true → p x ≡ true → list_all p (set xs i x) ≡ true
all_set p [] i x h k = refl
all_set p (y ∷ xs) zero x h k = grind (arith)
all_set p (y ∷ xs) (suc i) x h k = grind (arith, all_set p xs i x)

first_passes : (p : ℕ → Bool) (x : ℕ) (xs : List ℕ) → list_all p (x ∷ xs) ≡ true → p x ≡ true
first_passes p x xs h = grind (arith)

all_swap : (p : ℕ → Bool) (xs : List ℕ) (i j : ℕ) → list_all p xs ≡ true → list_all p (swap xs i j) ≡ true
all_swap p [] i j h = refl
all_swap p (x ∷ xs) i j h =
    let first = first_passes p x xs h in
    all_set p (set (x ∷ xs) i (get_or (x ∷ xs) j x)) j (get_or (x ∷ xs) i x)
    (all_set p (x ∷ xs) i (get_or (x ∷ xs) j x) h (all_or p (x ∷ xs) j x h first))
    (all_or p (x ∷ xs) i x h first)

-- a list of as many numbers, which all pass
record Keeps (p : ℕ → Bool) (n : ℕ) (xs : List ℕ) : Type 0 where
  all : list_all p xs ≡ true
  long : length xs ≡ n

narrow_keeps : (p : ℕ → Bool) (n : ℕ) (xs : List ℕ) (c : Chooser) (s : Stream) (k : ℕ) → Keeps p n xs → Keeps p n (narrow_swaps xs c s k).0
unfolding narrow_swaps
narrow_keeps p n xs c s zero h = h
narrow_keeps p n xs c s (suc k) h =
    let before = narrow_keeps p n xs c s k h in
    let now = narrow_swaps xs c s k in
    let next = chooser_next now.1 now.2 in
    record { all = all_swap p now.0 now.1.n next.0 before.all; long = length-swap now.0 now.1.n next.0 ∙ before.long }

wide_keeps : (p : ℕ → Bool) (n : ℕ) (xs : List ℕ) (start : ℕ) (s : Stream) (k : ℕ) → Keeps p n xs → Keeps p n (wide_swaps xs start s k).0
unfolding wide_swaps
wide_keeps p n xs start s zero h = h
wide_keeps p n xs start s (suc k) h =
    let before = wide_keeps p n xs start s k h in
    let now = wide_swaps xs start s k in
    let next = usize_single 0 (start + k + 1) now.1 in
    record { all = all_swap p now.0 (start + k) next.0 before.all; long = length-swap now.0 (start + k) next.0 ∙ before.long }

shuffled_keeps : (p : ℕ → Bool) (n : ℕ) (xs : List ℕ) (s : Stream) → Keeps p n xs → (b : Bool)
    → Keeps p n (if b then (let q = narrow_swaps xs (chooser_at 0) s (length xs - 0) in (q.0, q.2)) else wide_swaps xs 0 s (length xs - 0)).0
shuffled_keeps p n xs s h true = narrow_keeps p n xs (chooser_at 0) s (length xs - 0) h
shuffled_keeps p n xs s h false = wide_keeps p n xs 0 s (length xs - 0) h

abbrev is_among : ℕ → ℕ → Bool
is_among most n = nat_le 1 n && nat_le n most

among : (most low n : ℕ) → 1 ≤ low → low + n ≤ most + 1 → list_all (is_among most) (range_with_len low n) ≡ true
among most low zero a b = refl
among most low (suc n) a b = grind (arith, nat_tests, among most (low + 1) n (omega arith) (omega arith))

permutation_keeps : (n : ℕ) (s : Stream) → Keeps (is_among n) n (permutation n s).0
unfolding permutation
permutation_keeps n s =
    shuffled_keeps (is_among n) n (range_with_len 1 n) s (record { all = among n 1 n (omega arith) (omega arith); long = length-range_with_len 1 n }) (nat_lt (length (range_with_len 1 n)) (4294967296 - 1))

among_is_within : (n x : ℕ) → is_among n x ≡ true → (1 ≤ x) × (x < 1 + n)
among_is_within n x h = (grind (arith, nat_tests), grind (arith, nat_tests))

-- each element is one of the numbers
pub permutation_is_within : (n place : ℕ) (s : Stream) → place < n → (1 ≤ slice_index (permutation n s).0 place) × (slice_index (permutation n s).0 place < 1 + n)
permutation_is_within n place s h =
    let kept = permutation_keeps n s in
    among_is_within n (slice_index (permutation n s).0 place) (all_at (is_among n) (permutation n s).0 place 0 kept.all (omega (arith, kept.long)))
