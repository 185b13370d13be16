-- Numbers of a district's rows, which rise as their keys do.
use Rattle.std.proofs.Common.{◌≡◌, ℕ, zero, suc, ◌+◌, ◌-◌, ◌≤◌, ◌<◌, Bool, true, List, [], ◌∷◌, length, map, slice_get, refl, sym, ap, ◌∙◌, arith, Option, Some, None}
use Rattle.std.specs.Prelude.{max, filter, ◌==◌, ◌&&◌, nat_lt}
use Rattle.std.specs.List.{list_all}
use Rattle.std.specs.Option.{option_map, option_or}
use Rattle.std.proofs.lemmas.List.{length-map}
use Rattle.std.proofs.lemmas.Bool.Decides.{nat_tests}
use Rattle.tpcc_rows.specs.declared.tables.rows.OrderRow.{OrderRow}
use Rattle.tpcc_rows.specs.declared.tables.rows.OrderLineRow.{OrderLineRow}
use Rattle.tpcc_rows.specs.declared.tables.rows.NewOrderRow.{NewOrderRow}
use Rattle.tpcc_rows.specs.Lists.{largest, smallest, larger, is_ascending, key_before}
use Rattle.tpcc_rows.specs.Ranges.{is_within}
use Rattle.tpcc_rows.specs.Tables.{order_key, order_line_key, new_order_key}
use Rattle.tpcc_rows.proofs.Booleans.{split}
use Rattle.tpcc_laws.proofs.List.{list_all-mono}
use Rattle.tpcc_laws.proofs.Numbers.{within}
use Rattle.tpcc_laws.proofs.Remove.{is_rising, above-smallest}
use Rattle.tpcc_storage.specs.ByDistrict.{is_of}

-- of the rows that pass, a later one has a greater number
abbrev pub Climbs : {X : Type 0} → (X → List ℕ) → (X → ℕ) → (X → Bool) → Type 0
Climbs {X} key number p = (x y : X) → p x ≡ true → p y ≡ true → key_before (key x) (key y) ≡ true → nat_lt (number x) (number y) ≡ true

above : {X : Type 0} (key : X → List ℕ) (number : X → ℕ) (p : X → Bool) → Climbs key number p → (x : X) (xs : List X) → p x ≡ true → list_all (λ later. key_before (key x) (key later)) xs ≡ true → list_all (nat_lt (number x)) (map number (filter p xs)) ≡ true
above key number p up x [] is h = refl
above key number p up x (y ∷ xs) is h = grind (arith, up x y, above key number p up x xs)

pub rising : {X : Type 0} (key : X → List ℕ) (number : X → ℕ) (p : X → Bool) → Climbs key number p → (xs : List X) → is_ascending key xs ≡ true → is_rising (map number (filter p xs)) ≡ true
rising key number p up [] h = refl
rising key number p up (x ∷ xs) h = grind (arith, above key number p up x xs, rising key number p up xs)

-- no more rows than numbers
numbers_between : (low high : ℕ) (ns : List ℕ) → low ≤ high → list_all (nat_lt low) ns ≡ true → list_all (is_within 1 high) ns ≡ true → is_rising ns ≡ true → length ns + low ≤ high
numbers_between low high [] le over under up = omega arith
numbers_between low high (n ∷ ns) le over under up =
    let o = split (nat_lt low n) (list_all (nat_lt low) ns) over in
    let u = split (is_within 1 high n) (list_all (is_within 1 high) ns) under in
    let r = split (list_all (nat_lt n) ns) (is_rising ns) up in
    let more = within 1 high n u.0 in
    let lt : low < n = lower low n o.0 in
    omega (arith, numbers_between n high ns more.1 r.0 u.1 r.1)
  where
    lower : (a b : ℕ) → nat_lt a b ≡ true → a < b
    lower a b h = grind (arith, nat_tests)

numbers_within : {X : Type 0} (high : ℕ) (number : X → ℕ) (test : X → Bool) → ((x : X) → test x ≡ true → is_within 1 high (number x) ≡ true) → (xs : List X) → list_all test xs ≡ true → list_all (is_within 1 high) (map number xs) ≡ true
numbers_within high number test inside [] h = refl
numbers_within high number test inside (x ∷ xs) h = grind (arith, inside x, numbers_within high number test inside xs)

from_one : (high n : ℕ) → is_within 1 high n ≡ true → nat_lt 0 n ≡ true
from_one high n h = grind (arith, nat_tests)

pub rising_count : {X : Type 0} (high : ℕ) (number : X → ℕ) (test : X → Bool) → ((x : X) → test x ≡ true → is_within 1 high (number x) ≡ true) → (xs : List X) → list_all test xs ≡ true → is_rising (map number xs) ≡ true → length xs ≤ high
rising_count high number test inside xs h up =
    let under = numbers_within high number test inside xs h in
    omega (arith, numbers_between 0 high (map number xs) (omega arith) (list_all-mono (is_within 1 high) (nat_lt 0) (from_one high) (map number xs) under) under up, length-map xs number)

-- ---- the last and the first of them

beyond : (n : ℕ) (ns : List ℕ) → list_all (nat_lt n) ns ≡ true → largest (n ∷ ns) ≡ option_or (largest ns) (Some n)
beyond n [] h = refl
beyond n (m ∷ ns) h = highest n m (largest ns) (split (nat_lt n m) (list_all (nat_lt n) ns) h).0
  where
    highest : (n m : ℕ) (o : Option ℕ) → nat_lt n m ≡ true → Some (max n (larger m o)) ≡ Some (larger m o)
    highest n m None lt = grind (arith, nat_tests)
    highest n m (Some k) lt = grind (arith, nat_tests)

last_number : (ns : List ℕ) (i : ℕ) → length ns ≡ i + 1 → is_rising ns ≡ true → largest ns ≡ slice_get ns i
last_number [] i at up = absurd (omega arith)
last_number (n ∷ []) zero at up = refl
last_number (n ∷ []) (suc i) at up = absurd (omega arith)
last_number (n ∷ m ∷ ns) zero at up = absurd (omega arith)
last_number (n ∷ m ∷ ns) (suc i) at up =
    let r = split (list_all (nat_lt n) (m ∷ ns)) (is_rising (m ∷ ns)) up in
    beyond n (m ∷ ns) r.0 ∙ last_number (m ∷ ns) i (omega arith) r.1

pub first_number : (ns : List ℕ) → is_rising ns ≡ true → smallest ns ≡ slice_get ns 0
first_number [] up = refl
first_number (n ∷ ns) up = ap Some (above-smallest n ns (split (list_all (nat_lt n) ns) (is_rising ns) up).0)

get-map : {X Y : Type 0} (f : X → Y) (xs : List X) (i : ℕ) → slice_get (map f xs) i ≡ option_map f (slice_get xs i)
get-map f [] i = refl
get-map f (x ∷ xs) zero = refl
get-map f (x ∷ xs) (suc i) = get-map f xs i

-- of rows that rise the last has the largest number, and the first the smallest
pub last_is_largest : {X : Type 0} (number : X → ℕ) (xs : List X) → is_rising (map number xs) ≡ true → option_map number (slice_get xs (length xs - 1)) ≡ largest (map number xs)
last_is_largest number [] up = refl
last_is_largest number (x ∷ xs) up =
    let last : length (x ∷ xs) - 1 ≡ length xs = omega arith in
    ap (λ i. option_map number (slice_get (x ∷ xs) i)) last ∙ sym (get-map number (x ∷ xs) (length xs)) ∙ sym (last_number (map number (x ∷ xs)) (length xs) (omega (arith, length-map xs number)) up)

pub first_is_smallest : {X : Type 0} (number : X → ℕ) (xs : List X) → is_rising (map number xs) ≡ true → option_map number (slice_get xs 0) ≡ smallest (map number xs)
first_is_smallest number xs up = sym (get-map number xs 0) ∙ sym (first_number (map number xs) up)

-- ---- the rows of a district

abbrev pub in_district : ℕ → ℕ → OrderRow → Bool
in_district w d o = (o.warehouse == w) && (o.district == d)

abbrev pub waits_in : ℕ → ℕ → NewOrderRow → Bool
waits_in w d n = (n.warehouse == w) && (n.district == d)

abbrev pub lies_in : ℕ → ℕ → OrderLineRow → Bool
lies_in w d l = (l.warehouse == w) && (l.district == d)

pub order_is_of : (w d : ℕ) (o : OrderRow) → is_of (record { warehouse = w; district = d }) (order_key o) ≡ in_district w d o
order_is_of w d o = grind arith

pub new_order_is_of : (w d : ℕ) (n : NewOrderRow) → is_of (record { warehouse = w; district = d }) (new_order_key n) ≡ waits_in w d n
new_order_is_of w d n = grind arith

pub line_is_of : (w d : ℕ) (l : OrderLineRow) → is_of (record { warehouse = w; district = d }) (order_line_key l) ≡ lies_in w d l
line_is_of w d l = grind arith

order_climbs : (w d : ℕ) (x y : OrderRow) → in_district w d x ≡ true → in_district w d y ≡ true → key_before (order_key x) (order_key y) ≡ true → nat_lt x.id y.id ≡ true
order_climbs w d x y a b h = grind (arith, nat_tests)

pub order_rises : (w d : ℕ) (p : OrderRow → Bool) → ((o : OrderRow) → p o ≡ true → in_district w d o ≡ true) → Climbs order_key (λ o. o.id) p
order_rises w d p inside x y a b h = order_climbs w d x y (inside x a) (inside y b) h

pub new_order_rises : (w d : ℕ) → Climbs new_order_key (λ n. n.order) (waits_in w d)
new_order_rises w d x y a b h = grind (arith, nat_tests)

-- ---- the last and the first row of a district's part

pub last_of : {X : Type 0} (key : X → List ℕ) (number : X → ℕ) (p : X → Bool) → Climbs key number p → (xs part : List X) (found : Option X) → is_ascending key xs ≡ true → part ≡ filter p xs → found ≡ slice_get part (length part - 1) → option_map number found ≡ largest (map number (filter p xs))
last_of key number p up xs part found keyed is at =
    ap (option_map number) (at ∙ ap (λ ys. slice_get ys (length ys - 1)) is) ∙ last_is_largest number (filter p xs) (rising key number p up xs keyed)

pub first_of : {X : Type 0} (key : X → List ℕ) (number : X → ℕ) (p : X → Bool) → Climbs key number p → (xs part : List X) (found : Option X) → is_ascending key xs ≡ true → part ≡ filter p xs → found ≡ slice_get part 0 → option_map number found ≡ smallest (map number (filter p xs))
first_of key number p up xs part found keyed is at =
    ap (option_map number) (at ∙ ap (λ ys. slice_get ys 0) is) ∙ first_is_smallest number (filter p xs) (rising key number p up xs keyed)
