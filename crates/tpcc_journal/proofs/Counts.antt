-- One more entry of a terminal in a list of counts.
use Rattle.std.proofs.Common.{◌≡◌, ◌∙◌, sym, ap, refl, ℕ, zero, suc, ◌+◌, Bool, true, false, List, [], ◌∷◌, ◌++◌, get_or, set, arith, Option, Some, None}
use Rattle.std.specs.Prelude.{◌==◌, find, position, slice_get, unwrap_or, option_map, if◌then◌else◌}
use Rattle.std.specs.List.{position_or_len}
use Rattle.std.specs.Option.{option_or}
use Rattle.std.proofs.lemmas.Bool.Decides.{nat_tests}
use Rattle.std.proofs.lemmas.List.Folds.{find_at, find-set, find-append}
use Rattle.std.proofs.lemmas.List.Sums.{position_or_len_is}
use Rattle.std.proofs.lemmas.List.Quantifiers.{position-Some}
use Rattle.std.proofs.lemmas.Option.{slice_get-get_or}
use Rattle.tpcc_journal.specs.declared.tallies.Tally.{Tally}
use Rattle.tpcc_journal.specs.Internal.Tallies.{is_of, tally_of}

-- a write of an element that fails the test, where one stood that fails it too
find_other : {X : Type 0} (q : X → Bool) (xs : List X) (i : ℕ) (y d : X) → q y ≡ false → q (get_or xs i d) ≡ false → find q (set xs i y) ≡ find q xs
find_other q [] i y d h k = refl
find_other q (x ∷ xs) zero y d h k = grind (arith)
find_other q (x ∷ xs) (suc i) y d h k = grind (arith, find_other q xs i y d)

no_place : {X : Type 0} (p : X → Bool) (xs : List X) → position p xs ≡ None → find p xs ≡ None
no_place p [] e = refl
no_place p (x ∷ xs) e = grind (arith, no_place p xs)

or_none : {X : Type 0} (o : Option X) → option_or o None ≡ o
or_none None = refl
or_none (Some x) = refl

abbrev more : Tally → Tally
more x = record { terminal = x.terminal; count = x.count + 1 }

abbrev one_of : ℕ → Tally
one_of who = record { terminal = who; count = 1 }

abbrev count_or_0 : Option Tally → ℕ
count_or_0 o = unwrap_or (option_map (λ tally. tally.count) o) 0

same_terminal : (t who : ℕ) → (t == who) ≡ true → t ≡ who
same_terminal t who e = grind (arith, nat_tests)

other_terminal : (t who n : ℕ) → (t == who) ≡ false → (n == who) ≡ true → (n == t) ≡ false
other_terminal t who n e h = grind (arith, nat_tests)

first_at : (xs : List Tally) (who place : ℕ) (x : Tally) → position (is_of who) xs ≡ Some place → position_or_len (is_of who) xs ≡ place
first_at xs who place x at =
    let p = position-Some (is_of who) xs place x at in
    position_or_len_is (is_of who) xs place x (omega (arith, p.0)) p.2 (λ within. p.1)

-- the count of a listed terminal
pub listed_count : (xs : List Tally) (who place : ℕ) (x : Tally) → position (is_of who) xs ≡ Some place → x ≡ get_or xs place x → tally_of who xs ≡ x.count
listed_count xs who place x at is =
    let p = position-Some (is_of who) xs place x at in
    ap count_or_0 (find_at (is_of who) xs ∙ ap (slice_get xs) (first_at xs who place x at) ∙ slice_get-get_or xs place x p.0 ∙ ap Some (sym is))

bumped_same : (xs : List Tally) (who place : ℕ) (x : Tally) → position (is_of who) xs ≡ Some place → x ≡ get_or xs place x → tally_of who (set xs place (more x)) ≡ tally_of who xs + 1
bumped_same xs who place x at is =
    let p = position-Some (is_of who) xs place x at in
    ap count_or_0 (find-set (is_of who) xs place (more x) (sym (first_at xs who place x at)) p.0 (ap (is_of who) is ∙ p.1)) ∙ ap (λ n. n + 1) (sym (listed_count xs who place x at is))

raised_count_by : (xs : List Tally) (who t place : ℕ) (x : Tally) → position (is_of who) xs ≡ Some place → x ≡ get_or xs place x → (b : Bool) → (t == who) ≡ b → tally_of t (set xs place (more x)) ≡ tally_of t xs + (if b then 1 else 0)
raised_count_by xs who t place x at is true e =
    let same = same_terminal t who e in
    ap (λ n. tally_of n (set xs place (more x))) same ∙ bumped_same xs who place x at is ∙ ap (λ n. tally_of n xs + 1) (sym same)
raised_count_by xs who t place x at is false e =
    let p = position-Some (is_of who) xs place x at in
    let fails = other_terminal t who x.terminal e (ap (is_of who) is ∙ p.1) in
    let kept = ap count_or_0 (find_other (is_of t) xs place (more x) x fails (sym (ap (is_of t) is) ∙ fails)) in
    omega (arith, kept)

-- the first count of the terminal raised by one
pub raised_count : (xs : List Tally) (who t place : ℕ) (x : Tally) → position (is_of who) xs ≡ Some place → x ≡ get_or xs place x → tally_of t (set xs place (more x)) ≡ tally_of t xs + (if t == who then 1 else 0)
raised_count xs who t place x at is = raised_count_by xs who t place x at is (t == who) refl

alone : (who t : ℕ) (b : Bool) → (t == who) ≡ b → find (is_of t) (one_of who ∷ []) ≡ (if b then Some (one_of who) else None)
alone who t true e = grind (arith, nat_tests)
alone who t false e = grind (arith, nat_tests)

first_count_by : (xs : List Tally) (who t : ℕ) → position (is_of who) xs ≡ None → (b : Bool) → (t == who) ≡ b → tally_of t (xs ++ one_of who ∷ []) ≡ tally_of t xs + (if b then 1 else 0)
first_count_by xs who t none true e =
    let gone : find (is_of t) xs ≡ None = ap (λ n. find (is_of n) xs) (same_terminal t who e) ∙ no_place (is_of who) xs none in
    let new = ap count_or_0 (find-append (is_of t) xs (one_of who ∷ []) ∙ ap (λ o. option_or o (find (is_of t) (one_of who ∷ []))) gone ∙ alone who t true e) in
    omega (arith, new, ap count_or_0 gone)
first_count_by xs who t none false e =
    let new = ap count_or_0 (find-append (is_of t) xs (one_of who ∷ []) ∙ ap (option_or (find (is_of t) xs)) (alone who t false e) ∙ or_none (find (is_of t) xs)) in
    omega (arith, new)

-- a terminal that was not listed, with one entry
pub first_count : (xs : List Tally) (who t : ℕ) → position (is_of who) xs ≡ None → tally_of t (xs ++ one_of who ∷ []) ≡ tally_of t xs + (if t == who then 1 else 0)
first_count xs who t none = first_count_by xs who t none (t == who) refl
