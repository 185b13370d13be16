-- One part among those of all districts: what it says of all rows, and what a change of it is to them.
use Rattle.std.proofs.Common.{◌≡◌, ◌∙◌, ℕ, Bool, true, false, List, [], ◌∷◌, refl, ap, sym, arith, get_or, set}
use Rattle.std.specs.Prelude.{Option, Some, None, ◌||◌, not, filter, find, flat_map, is_some, position, take}
use Rattle.std.specs.List.{list_all, list_any}
use Rattle.tpcc_rows.specs.declared.tables.keys.DistrictKey.{DistrictKey}
use Rattle.tpcc_rows.specs.Lists.{key_before, updated}
use Rattle.tpcc_laws.proofs.List.{has_one, list_all-mono, one_of_key}
use Rattle.tpcc_laws.proofs.Remove.{found_passes}
use Rattle.tpcc_storage.specs.Internal.DistrictRows.{DistrictRows}
use Rattle.tpcc_storage.specs.Searches.{is_same_key}
use Rattle.tpcc_storage.specs.ByDistrict.{district_numbers, is_of}
use Rattle.tpcc_storage.specs.Internal.DistrictWords.{rows_in, part_numbers, is_part, owns, AreDistricts}
use Rattle.tpcc_storage.proofs.Keys.{same_keys, same_if_equal, not_before_itself}
use Rattle.tpcc_storage.proofs.Place.{found_row, none_before, written_row}
use Rattle.tpcc_storage.proofs.Halves.{none_found}
use Rattle.tpcc_storage.proofs.Flat.{no_strangers, none_passes, find-flat, filter-flat, updated-flat, removed-flat}

pub part_apart : {T : Type 0} (k : List ℕ) (x y : DistrictRows T) → is_part k x ≡ true → is_part k y ≡ true → key_before (part_numbers x) (part_numbers y) ≡ false
part_apart k x y a b =
    (λ i. key_before (same_keys (part_numbers x) k a i) (same_keys (part_numbers y) k b i)) ∙ not_before_itself k

-- a test of rows that asks for a district
abbrev pub AsksFor : {T : Type 0} → (T → List ℕ) → List ℕ → (T → Bool) → Type 0
AsksFor {T} key k q = (row : T) → q row ≡ true → take 2 (key row) ≡ k

other_district : {T : Type 0} (key : T → List ℕ) (k : List ℕ) (q : T → Bool) → AsksFor key k q → (owner : DistrictKey) (row : T) → is_same_key (district_numbers owner) k ≡ false → is_of owner (key row) ≡ true → q row ≡ false
other_district {T} key k q asks owner row other own = by (q row) refl
  where
    by : (b : Bool) → q row ≡ b → q row ≡ false
    by true is =
        let same : district_numbers owner ≡ k = sym (same_keys (take 2 (key row)) (district_numbers owner) own) ∙ asks row is in
        let clash = sym (same_if_equal (district_numbers owner) k same) ∙ other in
        cc
    by false is = is

none_other : {T : Type 0} (key : T → List ℕ) (k : List ℕ) (q : T → Bool) → AsksFor key k q → (owner : DistrictKey) (rows : List T) → is_same_key (district_numbers owner) k ≡ false → list_all (λ row. is_of owner (key row)) rows ≡ true → list_any q rows ≡ false
none_other key k q asks owner [] other own = refl
none_other key k q asks owner (row ∷ rows) other own =
    let mine : is_of owner (key row) ≡ true = grind arith in
    let rest : list_all (λ row. is_of owner (key row)) rows ≡ true = grind arith in
    let here : q row ≡ false = other_district key k q asks owner row other mine in
    grind (arith, here, none_other key k q asks owner rows other rest)

stranger_free : {T : Type 0} (key : T → List ℕ) (k : List ℕ) (q : T → Bool) → AsksFor key k q → (part : DistrictRows T) → owns key part ≡ true → (is_part k part || not (list_any q (rows_in part))) ≡ true
stranger_free key k q asks part own = by (is_part k part) refl
  where
    by : (b : Bool) → is_part k part ≡ b → (b || not (list_any q (rows_in part))) ≡ true
    by true is = refl
    by false is = ap not (none_other key k q asks part.owner part.rows.items is own)

module _ {T : Type 0} (key : T → List ℕ) (len room : ℕ) (parts : List (DistrictRows T)) (kept : AreDistricts key len room parts) (k : List ℕ) where
  pub strangers : (q : T → Bool) → AsksFor key k q → no_strangers rows_in (is_part k) q parts ≡ true
  strangers q asks = list_all-mono (owns key) (λ part. is_part k part || not (list_any q (rows_in part))) (stranger_free key k q asks) parts kept.own

  -- where the district has no part it has no row
  pub no_row : (q : T → Bool) → AsksFor key k q → position (is_part k) parts ≡ None → list_any q (flat_map rows_in parts) ≡ false
  no_row q asks none = none_passes rows_in (is_part k) q parts (strangers q asks) (none_before (is_part k) parts (list_any (is_part k) parts) refl none)

  module _ (i : ℕ) (part : DistrictRows T) (at : position (is_part k) parts ≡ Some i) (here : part ≡ get_or parts i part) where
    pub part_found : find (is_part k) parts ≡ Some part
    part_found = found_row (is_part k) parts i part at here

    pub one_part : has_one (is_part k) parts ≡ true
    one_part = one_of_key part_numbers (is_part k) (part_apart k) parts kept.ascending (ap is_some part_found)

    pub part_owns : owns key part ≡ true
    part_owns = (found_passes (is_part k) (owns key) parts part part_found kept.own).1

    pub part_is : part_numbers part ≡ k
    part_is = same_keys (part_numbers part) k (found_passes (is_part k) (owns key) parts part part_found kept.own).0

    -- look-ups among all rows are look-ups in the part
    pub rows_found : (q : T → Bool) → AsksFor key k q → find q (flat_map rows_in parts) ≡ find q part.rows.items
    rows_found q asks = find-flat rows_in (is_part k) q parts part (strangers q asks) one_part part_found

    pub rows_chosen : (q : T → Bool) → AsksFor key k q → filter q (flat_map rows_in parts) ≡ filter q part.rows.items
    rows_chosen q asks = filter-flat rows_in (is_part k) q parts part (strangers q asks) one_part part_found

    any_none : (q : T → Bool) (rows : List T) → find q rows ≡ None → list_any q rows ≡ false
    any_none q [] e = refl
    any_none q (row ∷ rows) e = grind (arith, any_none q rows)

    -- a row that its part does not have is nowhere
    pub no_row_there : (q : T → Bool) → AsksFor key k q → position q part.rows.items ≡ None → list_any q (flat_map rows_in parts) ≡ false
    no_row_there q asks none =
        any_none q (flat_map rows_in parts) (rows_found q asks ∙ none_found q part.rows.items (none_before q part.rows.items (list_any q part.rows.items) refl none))

    module _ (new : DistrictRows T) where
      pub write_is : set parts i new ≡ updated (is_part k) (λ old. new) parts
      write_is = written_row part_numbers (is_part k) (part_apart k) (λ old. new) parts i part kept.ascending at here

      pub found_is : (old : DistrictRows T) → find (is_part k) parts ≡ Some old → part ≡ old
      found_is old found = let both = sym part_found ∙ found in cc

      -- a change of the part is one of all rows
      pub rows_updated : (q : T → Bool) (change : T → T) → AsksFor key k q → new.rows.items ≡ updated q change part.rows.items → flat_map rows_in (set parts i new) ≡ updated q change (flat_map rows_in parts)
      rows_updated q change asks is =
          ap (flat_map rows_in) write_is
          ∙ updated-flat rows_in (is_part k) q change (λ old. new) parts (λ old found. is ∙ ap (λ (p : DistrictRows T). updated q change p.rows.items) (found_is old found)) one_part (strangers q asks)

      pub rows_removed : (q : T → Bool) → AsksFor key k q → new.rows.items ≡ filter (λ row. not (q row)) part.rows.items → flat_map rows_in (set parts i new) ≡ filter (λ row. not (q row)) (flat_map rows_in parts)
      rows_removed q asks is =
          ap (flat_map rows_in) write_is
          ∙ removed-flat rows_in (is_part k) q (λ old. new) parts (λ old found. is ∙ ap (λ (p : DistrictRows T). filter (λ row. not (q row)) p.rows.items) (found_is old found)) one_part (strangers q asks)

-- the row of a key is of the key's district
pub asks_key : {T : Type 0} (key : T → List ℕ) (numbers k : List ℕ) → k ≡ take 2 numbers → AsksFor key k (λ row. is_same_key (key row) numbers)
asks_key key numbers k own row e = ap (take 2) (same_keys (key row) numbers e) ∙ sym own

pub asks_district : {T : Type 0} (key : T → List ℕ) (owner : DistrictKey) → AsksFor key (district_numbers owner) (λ row. is_of owner (key row))
asks_district key owner row e = same_keys (take 2 (key row)) (district_numbers owner) e

-- a place that was searched in the slice of a vector
pub placed : {X : Type 0} (p : X → Bool) (seen xs : List X) (o w : Option ℕ) → seen ≡ xs → o ≡ position p seen → o ≡ w → position p xs ≡ w
placed p seen xs o w same is was = ap (position p) (sym same) ∙ sym is ∙ was

-- all rows of a district's part are its district's
pub whole_part : {T : Type 0} (key : T → List ℕ) (owner : DistrictKey) (part : DistrictRows T) → owns key part ≡ true → part_numbers part ≡ district_numbers owner → filter (λ row. is_of owner (key row)) part.rows.items ≡ part.rows.items
whole_part {T} key owner part own same = all_chosen (λ row. is_of owner (key row)) part.rows.items (ap (λ k. list_all (λ row. is_same_key (take 2 (key row)) k) part.rows.items) (sym same) ∙ own)
  where
    all_chosen : (q : T → Bool) (xs : List T) → list_all q xs ≡ true → filter q xs ≡ xs
    all_chosen q [] h = refl
    all_chosen q (x ∷ xs) h = grind (arith, all_chosen q xs)
