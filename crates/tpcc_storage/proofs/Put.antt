-- A row put into its part, and the parts after a change of one.
use Rattle.std.proofs.Common.{◌≡◌, ◌∙◌, ℕ, zero, suc, ◌+◌, ◌<◌, ◌≤◌, ◌^◌, Bool, true, false, List, [], ◌∷◌, ◌++◌, length, map, refl, ap, sym, subst, arith, get_or, set}
use Rattle.std.specs.Prelude.{All, Some, ◌&&◌, not, filter, find, flat_map, position, remove, take}
use Rattle.std.specs.List.{list_all}
use Rattle.std.proofs.Math.Seq.{map-set_same}
use Rattle.std.proofs.lemmas.List.Concat.{length-flat_map}
use Rattle.std.proofs.lemmas.List.Elements.{All-set, All-weaker}
use Rattle.std.proofs.lemmas.List.Folds.{flat_map-map}
use Rattle.std.proofs.lemmas.List.Quantifiers.{position-Some}
use Rattle.std.proofs.lemmas.List.Sums.{sum_by-set}
use Rattle.tpcc_rows.specs.declared.tables.keys.DistrictKey.{DistrictKey}
use Rattle.tpcc_rows.specs.Lists.{by_key, inserted, is_ascending, key_before, updated}
use Rattle.tpcc_laws.proofs.DeliveryKeys.{list_all-filter}
use Rattle.tpcc_laws.proofs.Insert.{list_all-inserted}
use Rattle.tpcc_laws.proofs.List.{ascending_front, list_all-mono}
use Rattle.tpcc_storage.specs.Internal.DistrictRows.{DistrictRows}
use Rattle.tpcc_storage.specs.Searches.{is_same_key}
use Rattle.tpcc_storage.specs.ByDistrict.{district_numbers, is_of}
use Rattle.tpcc_storage.specs.Internal.DistrictWords.{rows_in, owner_of, part_numbers, is_part, owns, HasRoom, AreDistricts}
use Rattle.tpcc_storage.proofs.Keys.{same_keys, same_if_equal, not_before_itself, one_before, district_decides}
use Rattle.tpcc_storage.proofs.Flat.{inserted-flat_any}
use Rattle.tpcc_storage.proofs.Shown.{ascending-shown}
use Rattle.tpcc_storage.proofs.Side.{IsAround, sides_from_order}
use Rattle.tpcc_storage.proofs.Place.{written}
use Rattle.tpcc_storage.proofs.Change.{removed_row}
use Rattle.tpcc_storage.proofs.Part.{one_part, found_is, write_is}

module _ {T : Type 0} (key : T → List ℕ) (new : T) (k : List ℕ) (same : take 2 (key new) ≡ k) where
  earlier_row : (owner : DistrictKey) (row : T) → key_before (district_numbers owner) k ≡ true → is_of owner (key row) ≡ true → not (key_before (key new) (key row)) ≡ true
  earlier_row owner row up own =
      let mine : take 2 (key row) ≡ district_numbers owner = same_keys (take 2 (key row)) (district_numbers owner) own in
      ap not (one_before (key row) (key new) (district_decides (key row) (key new) ((λ i. key_before (mine i) (same i)) ∙ up)))

  later_row : (owner : DistrictKey) (row : T) → key_before k (district_numbers owner) ≡ true → is_of owner (key row) ≡ true → key_before (key new) (key row) ≡ true
  later_row owner row up own =
      let mine : take 2 (key row) ≡ district_numbers owner = same_keys (take 2 (key row)) (district_numbers owner) own in
      district_decides (key new) (key row) ((λ i. key_before (same i) (mine i)) ∙ up)

  around : IsAround rows_in (is_part k) part_numbers (by_key key) new k (owns key)
  around =
      record {
        passes = λ part is. same_keys (part_numbers part) k is;
        past = λ part own up. list_all-mono (λ row. is_of part.owner (key row)) (λ row. not (key_before (key new) (key row))) (λ row. earlier_row part.owner row up) part.rows.items own;
        later = λ part own up. list_all-mono (λ row. is_of part.owner (key row)) (λ row. key_before (key new) (key row)) (λ row. later_row part.owner row up) part.rows.items own;
      }

  -- a row put into its part is put among all rows
  pub rows_inserted : (len room : ℕ) (parts : List (DistrictRows T)) (kept : AreDistricts key len room parts) (i : ℕ) (part : DistrictRows T) → position (is_part k) parts ≡ Some i → part ≡ get_or parts i part → (changed : DistrictRows T) → changed.rows.items ≡ inserted (by_key key) new part.rows.items → flat_map rows_in (set parts i changed) ≡ inserted (by_key key) new (flat_map rows_in parts)
  rows_inserted len room parts kept i part at here changed is =
      let one = one_part key len room parts kept k i part at here in
      ap (flat_map rows_in) (write_is key len room parts kept k i part at here changed)
      ∙ inserted-flat_any rows_in (is_part k) (by_key key) new (λ old. changed) parts (λ old found. is ∙ ap (λ (p : DistrictRows T). inserted (by_key key) new p.rows.items) (found_is key len room parts kept k i part at here changed old found)) one
      (sides_from_order rows_in (is_part k) part_numbers (by_key key) new k (owns key) around parts kept.own kept.ascending one)

-- rows of a part are in order where all rows are
ascending_back : {X : Type 0} (key : X → List ℕ) (xs ys : List X) → is_ascending key (xs ++ ys) ≡ true → is_ascending key ys ≡ true
ascending_back key [] ys h = h
ascending_back key (x ∷ xs) ys h = grind (arith, ascending_back key xs ys)

pub part_keyed : {T : Type 0} (key : T → List ℕ) (p : DistrictRows T → Bool) (parts : List (DistrictRows T)) (part : DistrictRows T) → is_ascending key (flat_map rows_in parts) ≡ true → find p parts ≡ Some part → is_ascending key part.rows.items ≡ true
part_keyed key p [] part h at = cc
part_keyed {T} key p (x ∷ xs) part h at = by (p x) refl (part_keyed key p xs part (ascending_back key (rows_in x) (flat_map rows_in xs) h))
  where
    by : (b : Bool) → p x ≡ b → (find p xs ≡ Some part → is_ascending key part.rows.items ≡ true) → is_ascending key part.rows.items ≡ true
    by true is next =
        let same : x ≡ part = grind (arith, at, is) in
        ap (λ (q : DistrictRows T). is_ascending key q.rows.items) (sym same) ∙ ascending_front key (rows_in x) (flat_map rows_in xs) h
    by false is next =
        let later : find p xs ≡ Some part = grind (arith, at, is) in
        next later

-- the parts after one of them was changed
all_set : {X : Type 0} (test : X → Bool) (xs : List X) (i : ℕ) (x : X) → test x ≡ true → list_all test xs ≡ true → list_all test (set xs i x) ≡ true
all_set test [] i x h all = refl
all_set test (y ∷ xs) zero x h all = grind arith
all_set test (y ∷ xs) (suc i) x h all = grind (arith, all_set test xs i x)

ascending_set : {X : Type 0} (numbers : X → List ℕ) (xs : List X) (i : ℕ) (x d : X) → numbers x ≡ numbers (get_or xs i d) → is_ascending numbers (set xs i x) ≡ is_ascending numbers xs
ascending_set numbers xs i x d same = ascending-shown numbers (λ n. n) (set xs i x) ∙ ap (is_ascending (λ n. n)) (map-set_same numbers xs i x d same) ∙ sym (ascending-shown numbers (λ n. n) xs)

less_room : {T : Type 0} (room less : ℕ) → less ≤ room → (part : DistrictRows T) → HasRoom room part → HasRoom less part
less_room room less le part h = omega arith

module _ {T : Type 0} (key : T → List ℕ) (len room : ℕ) (parts : List (DistrictRows T)) (kept : AreDistricts key len room parts) (i : ℕ) (part changed : DistrictRows T) (here : part ≡ get_or parts i part) (same : changed.owner ≡ part.owner) where
  owner_here : changed.owner ≡ (get_or parts i part).owner
  owner_here = same ∙ ap (λ (p : DistrictRows T). p.owner) here

  pub owners_kept : map owner_of (set parts i changed) ≡ map owner_of parts
  owners_kept = map-set_same owner_of parts i changed part owner_here

  pub parts_kept : (new_len new_room : ℕ) → new_room ≤ room → new_len + new_room < 2 ^ 64 → new_len ≡ length (flat_map rows_in (set parts i changed)) → owns key changed ≡ true → HasRoom new_room changed → AreDistricts key new_len new_room (set parts i changed)
  parts_kept new_len new_room le fits count own roomy =
      record {
        ascending = ascending_set part_numbers parts i changed part (ap district_numbers owner_here) ∙ kept.ascending;
        own = all_set (owns key) parts i changed own kept.own;
        counted = count;
        roomy = All-set (HasRoom new_room) parts i changed roomy (All-weaker (HasRoom room) (HasRoom new_room) (less_room room new_room le) parts kept.roomy);
        bound = fits;
      }

-- how many rows there are after a change of one part
pub length_set : {T : Type 0} (parts : List (DistrictRows T)) (i : ℕ) (part changed : DistrictRows T) → i < length parts → part ≡ get_or parts i part → length (flat_map rows_in (set parts i changed)) + length part.rows.items ≡ length (flat_map rows_in parts) + length changed.rows.items
length_set {T} parts i part changed lt here =
    let size : DistrictRows T → ℕ = λ (p : DistrictRows T). length p.rows.items in
    let by_sum = sum_by-set (λ (p : DistrictRows T). length p.rows.items) parts i changed part lt in
    let same : length part.rows.items ≡ length (get_or parts i part).rows.items = ap (λ (p : DistrictRows T). length p.rows.items) here in
    omega (arith, by_sum, same, length-flat_map rows_in (set parts i changed), length-flat_map rows_in parts)

pub length_inserted : {X : Type 0} (before : X → X → Bool) (new : X) (xs : List X) → length (inserted before new xs) ≡ length xs + 1
length_inserted before new [] = refl
length_inserted before new (x ∷ xs) = grind (arith, length_inserted before new xs)

-- a changed part owns its rows
owned_by : {T : Type 0} (key : T → List ℕ) (a b : DistrictKey) → a ≡ b → (rows : List T) → list_all (λ row. is_of b (key row)) rows ≡ true → list_all (λ row. is_of a (key row)) rows ≡ true
owned_by key a b same rows h = ap (λ (k : DistrictKey). list_all (λ row. is_of k (key row)) rows) same ∙ h

module _ {T : Type 0} (key : T → List ℕ) (part changed : DistrictRows T) (same : changed.owner ≡ part.owner) (own : owns key part ≡ true) where
  pub owns_inserted : (new : T) → take 2 (key new) ≡ part_numbers part → changed.rows.items ≡ inserted (by_key key) new part.rows.items → owns key changed ≡ true
  owns_inserted new of_part is =
      let mine : is_of part.owner (key new) ≡ true = same_if_equal (take 2 (key new)) (part_numbers part) of_part in
      owned_by key changed.owner part.owner same changed.rows.items
      (ap (list_all (λ row. is_of part.owner (key row))) is ∙ list_all-inserted (by_key key) (λ row. is_of part.owner (key row)) new part.rows.items
      ∙ (λ i. mine i && own i))

  pub owns_same : changed.rows.items ≡ part.rows.items → owns key changed ≡ true
  owns_same is = owned_by key changed.owner part.owner same changed.rows.items (ap (list_all (λ row. is_of part.owner (key row))) is ∙ own)

  pub owns_set : (new : T) (i : ℕ) → take 2 (key new) ≡ part_numbers part → changed.rows.items ≡ set part.rows.items i new → owns key changed ≡ true
  owns_set new i of_part is =
      owned_by key changed.owner part.owner same changed.rows.items
      (ap (list_all (λ row. is_of part.owner (key row))) is ∙ all_set (λ row. is_of part.owner (key row)) part.rows.items i new (same_if_equal (take 2 (key new)) (part_numbers part) of_part) own)

  pub owns_filter : (q : T → Bool) → changed.rows.items ≡ filter q part.rows.items → owns key changed ≡ true
  owns_filter q is =
      owned_by key changed.owner part.owner same changed.rows.items
      (ap (list_all (λ row. is_of part.owner (key row))) is ∙ list_all-filter (λ row. is_of part.owner (key row)) q part.rows.items own)

-- a part has the room of all
pub room_there : {T : Type 0} (room : ℕ) (parts : List (DistrictRows T)) (i : ℕ) (part : DistrictRows T) → All (HasRoom room) parts → i < length parts → part ≡ get_or parts i part → HasRoom room part
room_there room parts i part all lt here = subst (HasRoom room) (sym here) (all i part lt)

-- the row of a key in its part
row_apart : {T : Type 0} (key : T → List ℕ) (numbers : List ℕ) (x y : T) → is_same_key (key x) numbers ≡ true → is_same_key (key y) numbers ≡ true → key_before (key x) (key y) ≡ false
row_apart key numbers x y a b = (λ i. key_before (same_keys (key x) numbers a i) (same_keys (key y) numbers b i)) ∙ not_before_itself numbers

pub row_exchanged : {T : Type 0} (key : T → List ℕ) (numbers : List ℕ) (rows : List T) (line : ℕ) (row : T) → is_ascending key rows ≡ true → position (λ row. is_same_key (key row) numbers) rows ≡ Some line → set rows line row ≡ updated (λ row. is_same_key (key row) numbers) (λ old. row) rows
row_exchanged key numbers rows line row keyed at = written key (λ row. is_same_key (key row) numbers) (row_apart key numbers) (λ old. row) rows line row keyed at

pub row_taken_out : {T : Type 0} (key : T → List ℕ) (numbers : List ℕ) (rows : List T) (line : ℕ) → is_ascending key rows ≡ true → position (λ row. is_same_key (key row) numbers) rows ≡ Some line → remove rows line ≡ filter (λ row. not (is_same_key (key row) numbers)) rows
row_taken_out key numbers [] line keyed at = cc
row_taken_out key numbers (row ∷ rows) line keyed at = removed_row key (λ row. is_same_key (key row) numbers) (row_apart key numbers) (row ∷ rows) line row keyed at

pub line_within : {T : Type 0} (q : T → Bool) (rows : List T) (line : ℕ) → position q rows ≡ Some line → line < length rows
line_within q [] line at = cc
line_within q (row ∷ rows) line at = (position-Some q (row ∷ rows) line row at).0

-- a part with the same rows leaves all rows the same
pub rows_same : {T : Type 0} (parts : List (DistrictRows T)) (i : ℕ) (part changed : DistrictRows T) → part ≡ get_or parts i part → changed.rows.items ≡ part.rows.items → flat_map rows_in (set parts i changed) ≡ flat_map rows_in parts
rows_same {T} parts i part changed here is =
    sym (flat_map-map (λ (xs : List T). xs) rows_in (set parts i changed))
    ∙ ap (flat_map (λ (xs : List T). xs)) (map-set_same rows_in parts i changed part (is ∙ ap rows_in here))
    ∙ flat_map-map (λ (xs : List T). xs) rows_in parts
