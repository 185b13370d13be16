-- The order of names, and the names of one last name in it.
use Rattle.std.proofs.Common.{◌≡◌, ◌∙◌, ℕ, ◌-◌, ◌≤◌, ◌==◌, Bool, true, false, List, [], take, drop, refl, ap, sym, arith, Less, Equal, Greater}
use Rattle.std.specs.Prelude.{◌&&◌, not, filter}
use Rattle.std.specs.List.{prefix_len}
use Rattle.std.specs.List.Sorted.{IsPartitionedBy}
use Rattle.std.specs.declared.cmp.Ordering.{Ordering}
use Rattle.std.specs.Ordering.{is_lt, is_gt, is_eq, nat_cmp, ordering_then, ordering_reverse}
use Rattle.std.specs.Cmp.{IsTotalOrder, IsStrictWeakOrder}
use Rattle.std.specs.Cmp.Lexicographic.{slice_cmp}
use Rattle.std.specs.Str.{bytes_eq}
use Rattle.std.proofs.lemmas.Cmp.{then_total, on_total, nat_cmp_total, nat_list_cmp_total}
use Rattle.std.proofs.lemmas.List.Sorted.{ranks_by}
use Rattle.std.proofs.lemmas.Map.Text.{is_eq-slice_cmp}
use Rattle.std.proofs.lemmas.Bool.{eqb-true}
use Rattle.std.proofs.lemmas.Slice.Eq.{bytes_eq-Decides}
use Rattle.std.proofs.lemmas.Bool.Decides.{nat_tests}
use Rattle.tpcc_storage.specs.declared.names.CustomerName.{CustomerName}
use Rattle.tpcc_storage.specs.Names.{last_cmp, name_cmp, name_before, is_named}
use Rattle.tpcc_storage.specs.Internal.Names.{is_in_order}
use Rattle.tpcc_storage.proofs.Order.{front_of}
use Rattle.tpcc_storage.proofs.Stretch.{within, run_is, same_filter, front_within}

abbrev pub last_both : CustomerName → CustomerName → Ordering
last_both a b = last_cmp a b.warehouse b.district b.last

pub last_total : IsTotalOrder last_both
last_total = then_total (on_total (λ (n : CustomerName). n.warehouse) nat_cmp_total) (then_total (on_total (λ (n : CustomerName). n.district) nat_cmp_total) (on_total (λ (n : CustomerName). n.last) nat_list_cmp_total))

pub name_total : IsTotalOrder name_cmp
name_total = then_total last_total (then_total (on_total (λ (n : CustomerName). n.first) nat_list_cmp_total) (on_total (λ (n : CustomerName). n.id) nat_cmp_total))

pub name_order : IsStrictWeakOrder name_before
name_order = ranks_by name_total (λ n. n)

last_order : IsStrictWeakOrder (λ a b. is_lt (last_both a b))
last_order = ranks_by last_total (λ n. n)

-- ---- the names of one last name lie side by side

abbrev pub name_is_before : ℕ → ℕ → List ℕ → CustomerName → Bool
name_is_before w d last n = is_lt (last_cmp n w d last)

abbrev pub name_not_after : ℕ → ℕ → List ℕ → CustomerName → Bool
name_not_after w d last n = not (is_gt (last_cmp n w d last))

first_decides : (a b : Ordering) → is_lt (ordering_then a b) ≡ false → is_lt a ≡ false
first_decides Less b e = e
first_decides Equal b e = refl
first_decides Greater b e = refl

clash : (b : Bool) → b ≡ true → b ≡ false → ⊥
clash true e f = cc
clash false e f = cc

gt_reverse : (r : Ordering) → is_gt (ordering_reverse r) ≡ is_lt r
gt_reverse Less = refl
gt_reverse Equal = refl
gt_reverse Greater = refl

abbrev sought : ℕ → ℕ → List ℕ → CustomerName
sought w d last = record { warehouse = w; district = d; last = last; first = []; id = 0 }

before_falls : (w d : ℕ) (last : List ℕ) (x y : CustomerName) → name_before y x ≡ false → name_is_before w d last y ≡ true → name_is_before w d last x ≡ true
before_falls w d last x y low e = by (name_is_before w d last x) refl
  where
    by : (b : Bool) → name_is_before w d last x ≡ b → b ≡ true
    by true f = refl
    by false f = absurd (clash (name_is_before w d last y) e (last_order.chain y x (sought w d last) (first_decides (last_both y x) (ordering_then (slice_cmp nat_cmp y.first x.first) (nat_cmp y.id x.id)) low) f))

not_after_falls : (w d : ℕ) (last : List ℕ) (x y : CustomerName) → name_before y x ≡ false → name_not_after w d last y ≡ true → name_not_after w d last x ≡ true
not_after_falls w d last x y low e =
    let k = sought w d last in
    let gt_y : is_gt (last_both y k) ≡ is_lt (last_both k y) = ap is_gt (last_total.antisymm y k) ∙ gt_reverse (last_both k y) in
    let gt_x : is_gt (last_both x k) ≡ is_lt (last_both k x) = ap is_gt (last_total.antisymm x k) ∙ gt_reverse (last_both k x) in
    let above : is_lt (last_both k y) ≡ false = sym gt_y ∙ flipped (is_gt (last_both y k)) e in
    let below : is_lt (last_both k x) ≡ false = last_order.chain k y x above (first_decides (last_both y x) (ordering_then (slice_cmp nat_cmp y.first x.first) (nat_cmp y.id x.id)) low) in
    ap not (gt_x ∙ below)
  where
    flipped : (b : Bool) → not b ≡ true → b ≡ false
    flipped true h = sym h
    flipped false h = refl

pub before_front : (w d : ℕ) (last : List ℕ) (names : List CustomerName) → is_in_order name_before names ≡ true → IsPartitionedBy (name_is_before w d last) names
before_front w d last names up = front_of name_before (name_is_before w d last) (before_falls w d last) names up

pub not_after_front : (w d : ℕ) (last : List ℕ) (names : List CustomerName) → is_in_order name_before names ≡ true → IsPartitionedBy (name_not_after w d last) names
not_after_front w d last names up = front_of name_before (name_not_after w d last) (not_after_falls w d last) names up

less_not_greater : (r : Ordering) → is_lt r ≡ true → not (is_gt r) ≡ true
less_not_greater Less e = refl
less_not_greater Equal e = refl
less_not_greater Greater e = e

pub before_not_after : (w d : ℕ) (last : List ℕ) (n : CustomerName) → name_is_before w d last n ≡ true → name_not_after w d last n ≡ true
before_not_after w d last n e = less_not_greater (last_cmp n w d last) e

neither_is_equal : (r : Ordering) → (not (is_gt r) && not (is_lt r)) ≡ is_eq r
neither_is_equal Less = refl
neither_is_equal Equal = refl
neither_is_equal Greater = refl

equal_both : (a b : Ordering) → is_eq (ordering_then a b) ≡ (is_eq a && is_eq b)
equal_both Less b = refl
equal_both Equal b = refl
equal_both Greater b = refl

equal_numbers : (a b : ℕ) → is_eq (nat_cmp a b) ≡ (a == b)
equal_numbers a b = grind (arith, nat_tests)

to_left : (a b c : Bool) → (a && (b && c)) ≡ (a && b && c)
to_left true b c = refl
to_left false b c = refl

pub equal_is_named : (w d : ℕ) (last : List ℕ) (n : CustomerName) → is_eq (last_cmp n w d last) ≡ is_named w d last n
equal_is_named w d last n =
    equal_both (nat_cmp n.warehouse w) (ordering_then (nat_cmp n.district d) (slice_cmp nat_cmp n.last last))
    ∙ ap (λ b. is_eq (nat_cmp n.warehouse w) && b) (equal_both (nat_cmp n.district d) (slice_cmp nat_cmp n.last last))
    ∙ (λ i. equal_numbers n.warehouse w i && (equal_numbers n.district d i && is_eq-slice_cmp n.last last i))
    ∙ to_left (n.warehouse == w) (n.district == d) (bytes_eq n.last last)

pub named_are : (w d : ℕ) (last : List ℕ) (names : List CustomerName) → is_in_order name_before names ≡ true → take (prefix_len (name_not_after w d last) names - prefix_len (name_is_before w d last) names) (drop (prefix_len (name_is_before w d last) names) names) ≡ filter (is_named w d last) names
named_are w d last names up =
    run_is (name_is_before w d last) (name_not_after w d last) (before_not_after w d last) names (before_front w d last names up) (not_after_front w d last names up)
    ∙ same_filter (within (name_is_before w d last) (name_not_after w d last)) (is_named w d last) (λ n. neither_is_equal (last_cmp n w d last) ∙ equal_is_named w d last n) names

pub named_from_start : (w d : ℕ) (last : List ℕ) (names : List CustomerName) → prefix_len (name_is_before w d last) names ≤ prefix_len (name_not_after w d last) names
named_from_start w d last names = front_within (name_is_before w d last) (name_not_after w d last) (before_not_after w d last) names

-- ---- names that tie are one

same_number : (a b : ℕ) → nat_cmp a b ≡ Equal → a ≡ b
same_number a b e = eqb-true a b (sym (equal_numbers a b) ∙ ap is_eq e)

same_text : (a b : List ℕ) → slice_cmp nat_cmp a b ≡ Equal → a ≡ b
same_text a b e = (bytes_eq-Decides a b).0 (sym (is_eq-slice_cmp a b) ∙ ap is_eq e)

first_equal : (a b : Ordering) → ordering_then a b ≡ Equal → a ≡ Equal
first_equal Less b e = e
first_equal Equal b e = refl
first_equal Greater b e = e

second_equal : (a b : Ordering) → ordering_then a b ≡ Equal → b ≡ Equal
second_equal Less b e = cc
second_equal Equal b e = e
second_equal Greater b e = cc

neither : (r s : Ordering) → s ≡ ordering_reverse r → is_lt r ≡ false → is_lt s ≡ false → r ≡ Equal
neither Less s e h k = cc
neither Equal s e h k = refl
neither Greater s e h k = let less : is_lt s ≡ true = ap is_lt e in cc

pub names_tied : (a b : CustomerName) → name_before a b ≡ false → name_before b a ≡ false → a ≡ b
names_tied a b h k =
    let e : name_cmp a b ≡ Equal = neither (name_cmp a b) (name_cmp b a) (name_total.antisymm b a) h k in
    let rest = ordering_then (slice_cmp nat_cmp a.first b.first) (nat_cmp a.id b.id) in
    let of_last : last_both a b ≡ Equal = first_equal (last_both a b) rest e in
    let of_rest : rest ≡ Equal = second_equal (last_both a b) rest e in
    let in_last = ordering_then (nat_cmp a.district b.district) (slice_cmp nat_cmp a.last b.last) in
    let of_district : in_last ≡ Equal = second_equal (nat_cmp a.warehouse b.warehouse) in_last of_last in
    let warehouse : a.warehouse ≡ b.warehouse = same_number a.warehouse b.warehouse (first_equal (nat_cmp a.warehouse b.warehouse) in_last of_last) in
    let district : a.district ≡ b.district = same_number a.district b.district (first_equal (nat_cmp a.district b.district) (slice_cmp nat_cmp a.last b.last) of_district) in
    let last : a.last ≡ b.last = same_text a.last b.last (second_equal (nat_cmp a.district b.district) (slice_cmp nat_cmp a.last b.last) of_district) in
    let first : a.first ≡ b.first = same_text a.first b.first (first_equal (slice_cmp nat_cmp a.first b.first) (nat_cmp a.id b.id) of_rest) in
    let id : a.id ≡ b.id = same_number a.id b.id (second_equal (slice_cmp nat_cmp a.first b.first) (nat_cmp a.id b.id) of_rest) in
    λ i. record { warehouse = warehouse i; district = district i; last = last i; first = first i; id = id i }
