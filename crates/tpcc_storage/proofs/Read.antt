-- Rows in order, read district by district.
use Rattle.std.proofs.Common.{◌≡◌, ◌∙◌, ℕ, zero, suc, ◌+◌, ◌-◌, ◌<◌, ◌≤◌, Bool, true, false, cond, List, [], ◌∷◌, ◌++◌, length, take, drop, refl, ap, sym, arith, get_or, slice_get, length-drop}
use Rattle.std.specs.Prelude.{◌&&◌, not, flat_map}
use Rattle.std.specs.List.{list_all, prefix_len}
use Rattle.std.proofs.Math.Seq.{drop-cons, take-add}
use Rattle.std.proofs.lemmas.Bool.Decides.{nat_tests}
use Rattle.std.proofs.lemmas.Grind.{flat_map-append}
use Rattle.std.proofs.lemmas.List.Elements.{All-push}
use Rattle.std.proofs.lemmas.List.Sums.{prefix_len-le-length}
use Rattle.tpcc_rows.specs.declared.tables.keys.DistrictKey.{DistrictKey}
use Rattle.tpcc_rows.specs.Lists.{is_ascending, key_before}
use Rattle.tpcc_laws.proofs.List.{list_all-mono}
use Rattle.tpcc_storage.specs.Internal.DistrictRows.{DistrictRows}
use Rattle.tpcc_storage.specs.Searches.{is_same_key}
use Rattle.tpcc_storage.specs.ByDistrict.{district_numbers, is_of}
use Rattle.tpcc_storage.specs.Internal.DistrictWords.{rows_in, part_numbers, owns, HasRoom, AreRead}
use Rattle.tpcc_storage.proofs.Flat.{all-append, append_nil}
use Rattle.tpcc_storage.proofs.Keys.{district_later, not_before_itself, same_if_equal}
use Rattle.tpcc_storage.proofs.Halves.{all_at}

-- ---- keys of later districts

-- the rows after one of a later district are of later districts
pub later_still : (w d : ℕ) (a b : List ℕ) → key_before (w ∷ d ∷ []) (take 2 a) ≡ true → key_before a b ≡ true → key_before (w ∷ d ∷ []) (take 2 b) ≡ true
later_still w d [] b h k = cc
later_still w d (x ∷ a) [] h k = cc
later_still w d (x ∷ []) (y ∷ []) h k = grind (arith, nat_tests)
later_still w d (x ∷ []) (y ∷ v ∷ b) h k = grind (arith, nat_tests)
later_still w d (x ∷ u ∷ a) (y ∷ []) h k = grind (arith, nat_tests)
later_still w d (x ∷ u ∷ a) (y ∷ v ∷ b) h k = grind (arith, nat_tests)

module _ {T : Type 0} (key : T → List ℕ) (w d : ℕ) where
  abbrev pub is_later : T → Bool
  is_later row = key_before (w ∷ d ∷ []) (take 2 (key row))

  abbrev pub is_mine : T → Bool
  is_mine row = is_same_key (take 2 (key row)) (w ∷ d ∷ [])

  pub not_later_before : (x y : T) → key_before (key x) (key y) ≡ true → not (is_later y) ≡ true → not (is_later x) ≡ true
  not_later_before x y up e = by (is_later x) refl
    where
      by : (b : Bool) → is_later x ≡ b → not b ≡ true
      by true is = sym (ap not (later_still w d (key x) (key y) is up)) ∙ e
      by false is = refl

  abbrev pub run_rows : List T → ℕ
  run_rows rows = prefix_len (λ row. not (is_later row)) rows

  drop_later : (x : T) (xs : List T) (n : ℕ) → drop (1 + n) (x ∷ xs) ≡ drop n xs
  drop_later x xs n = let e : 1 + n ≡ suc n = omega arith in λ i. drop (e i) (x ∷ xs)

  take_later : (x : T) (xs : List T) (n : ℕ) → take (1 + n) (x ∷ xs) ≡ x ∷ take n xs
  take_later x xs n = let e : 1 + n ≡ suc n = omega arith in λ i. take (e i) (x ∷ xs)

  -- after the run all rows are of later districts
  pub run_later : (rows : List T) → is_ascending key rows ≡ true → list_all is_later (drop (run_rows rows) rows) ≡ true
  run_later [] up = refl
  run_later (x ∷ xs) up = by (is_later x) refl (run_later xs rest)
    where
      rest : is_ascending key xs ≡ true
      rest = grind (arith, up)

      above : list_all (λ row. key_before (key x) (key row)) xs ≡ true
      above = grind (arith, up)

      by : (b : Bool) → is_later x ≡ b → list_all is_later (drop (run_rows xs) xs) ≡ true → list_all is_later (drop (cond (not b) (1 + run_rows xs) 0) (x ∷ xs)) ≡ true
      by false is next = ap (list_all is_later) (drop_later x xs (run_rows xs)) ∙ next
      by true is next =
          let all = list_all-mono (λ row. key_before (key x) (key row)) is_later (λ row. later_still w d (key x) (key row) is) xs above in
          λ i. is i && all i

  -- in the run all rows are of the district of a row before them
  run_is_mine : (a : List ℕ) → take 2 a ≡ w ∷ d ∷ [] → (rows : List T) → list_all (λ row. key_before a (key row)) rows ≡ true → list_all is_mine (take (run_rows rows) rows) ≡ true
  run_is_mine a own [] above = refl
  run_is_mine a own (x ∷ xs) above = by (is_later x) refl (run_is_mine a own xs rest)
    where
      here : key_before a (key x) ≡ true
      here = grind (arith, above)

      rest : list_all (λ row. key_before a (key row)) xs ≡ true
      rest = grind (arith, above)

      mine : (b : Bool) → is_mine x ≡ b → is_later x ≡ false → is_mine x ≡ true
      mine true is early = is
      mine false is early = let late = district_later w d a (key x) own here is in cc

      by : (b : Bool) → is_later x ≡ b → list_all is_mine (take (run_rows xs) xs) ≡ true → list_all is_mine (take (cond (not b) (1 + run_rows xs) 0) (x ∷ xs)) ≡ true
      by true is next = refl
      by false is next = ap (list_all is_mine) (take_later x xs (run_rows xs)) ∙ (λ i. mine (is_mine x) refl is i && next i)

  early : (x : T) → take 2 (key x) ≡ w ∷ d ∷ [] → not (is_later x) ≡ true
  early x own = ap not (ap (key_before (w ∷ d ∷ [])) own ∙ not_before_itself (w ∷ d ∷ []))

  -- the run from a row of the district on
  pub run_mine : (first : T) (rows : List T) → 0 < length rows → first ≡ get_or rows 0 first → take 2 (key first) ≡ w ∷ d ∷ [] → is_ascending key rows ≡ true → list_all is_mine (take (run_rows rows) rows) ≡ true
  run_mine first [] some is own up = absurd (omega arith)
  run_mine first (x ∷ xs) some is own up =
      let mine : take 2 (key x) ≡ w ∷ d ∷ [] = ap (λ row. take 2 (key row)) (sym is) ∙ own in
      let above : list_all (λ row. key_before (key x) (key row)) xs ≡ true = grind (arith, up) in
      (λ i. list_all is_mine (take (cond (early x mine i) (1 + run_rows xs) 0) (x ∷ xs)))
      ∙ ap (list_all is_mine) (take_later x xs (run_rows xs))
      ∙ (λ i. same_if_equal (take 2 (key x)) (w ∷ d ∷ []) mine i && run_is_mine (key x) mine xs above i)

  pub run_some : (first : T) (rows : List T) → 0 < length rows → first ≡ get_or rows 0 first → take 2 (key first) ≡ w ∷ d ∷ [] → 0 < run_rows rows
  run_some first [] some is own = absurd (omega arith)
  run_some first (x ∷ xs) some is own =
      let mine : take 2 (key x) ≡ w ∷ d ∷ [] = ap (λ row. take 2 (key row)) (sym is) ∙ own in
      let longer : run_rows (x ∷ xs) ≡ 1 + run_rows xs = λ i. cond (early x mine i) (1 + run_rows xs) 0 in
      omega (arith, longer)

-- ---- one more run read

ascending_drop : {X : Type 0} (key : X → List ℕ) (n : ℕ) (xs : List X) → is_ascending key xs ≡ true → is_ascending key (drop n xs) ≡ true
ascending_drop key zero xs up = up
ascending_drop key (suc n) [] up = refl
ascending_drop key (suc n) (x ∷ xs) up =
    let rest : is_ascending key xs ≡ true = grind (arith, up) in
    ascending_drop key n xs rest

pub ascending_rest : {X : Type 0} (key : X → List ℕ) (n : ℕ) (xs seen : List X) → seen ≡ drop n xs → is_ascending key xs ≡ true → is_ascending key seen ≡ true
ascending_rest key n xs seen is up = ap (is_ascending key) is ∙ ascending_drop key n xs up

all_drop : {X : Type 0} (test : X → Bool) (n : ℕ) (xs : List X) → list_all test xs ≡ true → list_all test (drop n xs) ≡ true
all_drop test zero xs h = h
all_drop test (suc n) [] h = refl
all_drop test (suc n) (x ∷ xs) h =
    let rest : list_all test xs ≡ true = grind (arith, h) in
    all_drop test n xs rest

drop_nothing : {X : Type 0} (n : ℕ) → drop {A = X} n [] ≡ []
drop_nothing zero = refl
drop_nothing (suc n) = refl

drop_further : {X : Type 0} (m n : ℕ) (xs : List X) → drop (m + n) xs ≡ drop n (drop m xs)
drop_further zero n xs = let e : 0 + n ≡ n = omega arith in λ i. drop (e i) xs
drop_further (suc m) n [] = drop_nothing (suc m + n) ∙ sym (drop_nothing n)
drop_further (suc m) n (x ∷ xs) = let e : suc m + n ≡ suc (m + n) = omega arith in (λ i. drop (e i) (x ∷ xs)) ∙ drop_further m n xs

ascending_push : {X : Type 0} (numbers : X → List ℕ) (xs : List X) (y : X) → is_ascending numbers xs ≡ true → list_all (λ x. key_before (numbers x) (numbers y)) xs ≡ true → is_ascending numbers (xs ++ y ∷ []) ≡ true
ascending_push numbers [] y up below = refl
ascending_push numbers (x ∷ xs) y up below =
    let above : list_all (λ later. key_before (numbers x) (numbers later)) xs ≡ true = grind (arith, up) in
    let here : key_before (numbers x) (numbers y) ≡ true = grind (arith, below) in
    let rest : is_ascending numbers xs ≡ true = grind (arith, up) in
    let later : list_all (λ x. key_before (numbers x) (numbers y)) xs ≡ true = grind (arith, below) in
    let one : list_all (λ later. key_before (numbers x) (numbers later)) (y ∷ []) ≡ true = λ i. here i && true in
    let all = all-append (λ later. key_before (numbers x) (numbers later)) xs (y ∷ []) above one in
    λ i. all i && ascending_push numbers xs y rest later i

module _ {T : Type 0} (key : T → List ℕ) (rows : List T) (up : is_ascending key rows ≡ true) (start : ℕ) (parts : List (DistrictRows T)) (so_far : AreRead key rows start parts) (more : start < length rows) (seen : List T) (is : seen ≡ drop start rows) (first : T) (here : first ≡ get_or seen 0 first) (owner : DistrictKey) (own : district_numbers owner ≡ take 2 (key first)) (n : ℕ) (counted : n ≡ prefix_len (λ row. not (key_before (district_numbers owner) (take 2 (key row)))) seen) (run : DistrictRows T) (of_owner : run.owner ≡ owner) (holds : run.rows.items ≡ take n seen) (within : HasRoom 0 run) where
  some : 0 < length seen
  some = let l : length seen ≡ length rows - start = ap length is ∙ length-drop start rows in omega (arith, l, more)

  seen_up : is_ascending key seen ≡ true
  seen_up = ascending_rest key start rows seen is up

  pub run_further : start < start + n
  run_further = let s = run_some key owner.warehouse owner.district first seen some here (sym own) in omega (arith, s, counted)

  run_owns : owns key run ≡ true
  run_owns =
      (λ i. list_all (λ row. is_of (of_owner i) (key row)) (holds i))
      ∙ ap (λ m. list_all (λ row. is_of owner (key row)) (take m seen)) counted
      ∙ run_mine key owner.warehouse owner.district first seen some here (sym own) seen_up

  numbers_are : part_numbers run ≡ take 2 (key first)
  numbers_are = ap district_numbers of_owner ∙ own

  below : list_all (λ part. key_before (part_numbers part) (part_numbers run)) parts ≡ true
  below = list_all-mono (λ part. list_all (λ row. key_before (part_numbers part) (take 2 (key row))) (drop start rows)) (λ part. key_before (part_numbers part) (part_numbers run))
      (λ part ahead.
      let all : list_all (λ row. key_before (part_numbers part) (take 2 (key row))) seen ≡ true = ap (list_all (λ row. key_before (part_numbers part) (take 2 (key row)))) is ∙ ahead in
      ap (key_before (part_numbers part)) (numbers_are ∙ ap (λ row. take 2 (key row)) here) ∙ all_at (λ row. key_before (part_numbers part) (take 2 (key row))) seen 0 first all some)
      parts so_far.ahead

  left : drop n seen ≡ drop (start + n) rows
  left = ap (drop n) is ∙ sym (drop_further start n rows)

  still_ahead : list_all (λ part. list_all (λ row. key_before (part_numbers part) (take 2 (key row))) (drop (start + n) rows)) parts ≡ true
  still_ahead = list_all-mono (λ part. list_all (λ row. key_before (part_numbers part) (take 2 (key row))) (drop start rows)) (λ part. list_all (λ row. key_before (part_numbers part) (take 2 (key row))) (drop (start + n) rows))
      (λ part ahead. ap (list_all (λ row. key_before (part_numbers part) (take 2 (key row)))) (drop_further start n rows) ∙ all_drop (λ row. key_before (part_numbers part) (take 2 (key row))) n (drop start rows) ahead)
      parts so_far.ahead

  run_ahead : list_all (λ row. key_before (part_numbers run) (take 2 (key row))) (drop (start + n) rows) ≡ true
  run_ahead =
      (λ i. list_all (λ row. key_before (district_numbers (of_owner i)) (take 2 (key row))) (sym left i))
      ∙ ap (λ m. list_all (λ row. key_before (district_numbers owner) (take 2 (key row))) (drop m seen)) counted
      ∙ run_later key owner.warehouse owner.district seen seen_up

  pub run_read : AreRead key rows (start + n) (parts ++ run ∷ [])
  run_read =
      record {
        ascending = ascending_push part_numbers parts run so_far.ascending below;
        own = all-append (owns key) parts (run ∷ []) so_far.own (λ i. run_owns i && true);
        read = flat_map-append rows_in parts (run ∷ []) ∙ ap (λ xs. flat_map rows_in parts ++ xs) (append_nil run.rows.items)
            ∙ (λ i. so_far.read i ++ (holds ∙ ap (take n) is) i) ∙ sym (take-add start n rows);
        ahead = all-append (λ part. list_all (λ row. key_before (part_numbers part) (take 2 (key row))) (drop (start + n) rows)) parts (run ∷ []) still_ahead (λ i. run_ahead i && true);
        roomy = All-push (HasRoom 0) parts run so_far.roomy within;
        within = let l : length seen ≡ length rows - start = ap length is ∙ length-drop start rows in omega (arith, l, more, counted, prefix_len-le-length (λ row. not (key_before (district_numbers owner) (take 2 (key row)))) seen);
      }

-- ---- the row at a place, counted through the parts

get_past : {X : Type 0} (xs ys : List X) (i : ℕ) → length xs ≤ i → slice_get (xs ++ ys) i ≡ slice_get ys (i - length xs)
get_past [] ys i le = let e : i ≡ i - 0 = omega arith in λ j. slice_get ys (e j)
get_past (x ∷ xs) ys zero le = absurd (omega arith)
get_past (x ∷ xs) ys (suc i) le =
    let e : i - length xs ≡ suc i - length (x ∷ xs) = omega arith in
    get_past xs ys i (omega arith) ∙ (λ j. slice_get ys (e j))

drop_past : {X : Type 0} (xs ys : List X) (i : ℕ) → length xs ≤ i → drop i (xs ++ ys) ≡ drop (i - length xs) ys
drop_past [] ys i le = let e : i ≡ i - 0 = omega arith in λ j. drop (e j) ys
drop_past (x ∷ xs) ys zero le = absurd (omega arith)
drop_past (x ∷ xs) ys (suc i) le =
    let e : i - length xs ≡ suc i - length (x ∷ xs) = omega arith in
    drop_past xs ys i (omega arith) ∙ (λ j. drop (e j) ys)

get_within : {X : Type 0} (xs ys : List X) (i : ℕ) → i < length xs → slice_get (xs ++ ys) i ≡ slice_get xs i
get_within [] ys i lt = absurd (omega arith)
get_within (y ∷ xs) ys zero lt = refl
get_within (y ∷ xs) ys (suc i) lt = get_within xs ys i (omega arith)

module _ {T : Type 0} (parts : List (DistrictRows T)) (i : ℕ) (part : DistrictRows T) (lt : i < length parts) (here : part ≡ get_or parts i part) where
  rows_from : flat_map rows_in (drop i parts) ≡ part.rows.items ++ flat_map rows_in (drop (i + 1) parts)
  rows_from =
      let e : suc i ≡ i + 1 = omega arith in
      ap (flat_map rows_in) (drop-cons parts i part lt) ∙ (λ j. rows_in (sym here j) ++ flat_map rows_in (drop (e j) parts))

  pub row_past : (before : ℕ) → length part.rows.items ≤ before → slice_get (flat_map rows_in (drop i parts)) before ≡ slice_get (flat_map rows_in (drop (i + 1) parts)) (before - length part.rows.items)
  row_past before le = ap (λ xs. slice_get xs before) rows_from ∙ get_past part.rows.items (flat_map rows_in (drop (i + 1) parts)) before le

  pub row_within : (before : ℕ) → before < length part.rows.items → slice_get part.rows.items before ≡ slice_get (flat_map rows_in (drop i parts)) before
  row_within before within = sym (ap (λ xs. slice_get xs before) rows_from ∙ get_within part.rows.items (flat_map rows_in (drop (i + 1) parts)) before within)

  -- the rows from a place on, counted through the parts
  pub rest_past : (before : ℕ) → length part.rows.items ≤ before → drop before (flat_map rows_in (drop i parts)) ≡ drop (before - length part.rows.items) (flat_map rows_in (drop (i + 1) parts))
  rest_past before le = ap (drop before) rows_from ∙ drop_past part.rows.items (flat_map rows_in (drop (i + 1) parts)) before le
