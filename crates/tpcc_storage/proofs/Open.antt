-- One more part, with no rows, and parts with more room.
use Rattle.std.proofs.Common.{◌≡◌, ◌∙◌, ℕ, zero, suc, ◌+◌, ◌<◌, ◌≤◌, ◌^◌, Bool, true, false, List, [], ◌∷◌, ◌++◌, length, map, refl, ap, sym, subst, arith, get_or, set}
use Rattle.std.specs.Prelude.{All, None, ◌&&◌, ◌||◌, flat_map, if◌then◌else◌, position, take}
use Rattle.std.specs.List.{list_all, list_any}
use Rattle.std.proofs.lemmas.Bool.Decides.{nat_tests}
use Rattle.std.proofs.Math.Seq.{map-set_same}
use Rattle.std.proofs.lemmas.List.{length-map}
use Rattle.std.proofs.lemmas.List.Elements.{All-set, AllWithin-kept, AllWithin-more_set}
use Rattle.std.proofs.lemmas.List.Folds.{flat_map-map}
use Rattle.tpcc_rows.specs.declared.tables.keys.DistrictKey.{DistrictKey}
use Rattle.tpcc_rows.specs.Lists.{by_key, inserted, is_ascending}
use Rattle.tpcc_laws.proofs.Insert.{list_all-inserted}
use Rattle.tpcc_laws.proofs.OrderKeys.{apart, ascending-inserted}
use Rattle.tpcc_storage.specs.Internal.DistrictRows.{DistrictRows}
use Rattle.tpcc_storage.specs.Searches.{is_same_key}
use Rattle.tpcc_storage.specs.ByDistrict.{district_numbers, is_of, has_owner}
use Rattle.tpcc_storage.specs.Internal.DistrictWords.{rows_in, owner_of, part_numbers, is_part, owns, owner_and_rows, HasRoom, IsGrown, IsOpened, AreDistricts}
use Rattle.tpcc_storage.proofs.Keys.{same_if_equal}
use Rattle.tpcc_storage.proofs.Owner.{owner_is_part}
use Rattle.tpcc_storage.proofs.Place.{none_before}
use Rattle.tpcc_storage.proofs.Shown.{map-shown, all-shown, ascending-shown}

-- ---- one more part

all_cons : {X : Type 0} (P : X → Type 0) (x : X) (xs : List X) → P x → All P xs → All P (x ∷ xs)
all_cons P x xs h all zero d lt = h
all_cons P x xs h all (suc k) d lt = all k d (omega arith)

all_inserted : {X : Type 0} (P : X → Type 0) (before : X → X → Bool) (new : X) (xs : List X) → P new → All P xs → All P (inserted before new xs)
all_inserted P before new [] h all = all_cons P new [] h all
all_inserted {X} P before new (x ∷ xs) h all = by (before new x) (all_inserted P before new xs h (λ k d lt. all (suc k) d (omega arith)))
  where
    by : (b : Bool) → All P (inserted before new xs) → All P (if b then new ∷ x ∷ xs else x ∷ inserted before new xs)
    by true rest = all_cons P new (x ∷ xs) h all
    by false rest = all_cons P x (inserted before new xs) (all 0 x (omega arith)) rest

pub any-inserted : {X : Type 0} (before : X → X → Bool) (test : X → Bool) (new : X) (xs : List X) → list_any test (inserted before new xs) ≡ (test new || list_any test xs)
any-inserted before test new [] = grind arith
any-inserted before test new (x ∷ xs) = grind (arith, any-inserted before test new xs)

no_more_rows : {E X : Type 0} (f : E → List X) (before : E → E → Bool) (new : E) (es : List E) → f new ≡ [] → flat_map f (inserted before new es) ≡ flat_map f es
no_more_rows f before new [] none = λ i. none i ++ []
no_more_rows f before new (e ∷ es) none = by (before new e) (no_more_rows f before new es none)
  where
    by : (b : Bool) → flat_map f (inserted before new es) ≡ flat_map f es → flat_map f (if b then new ∷ e ∷ es else e ∷ inserted before new es) ≡ flat_map f (e ∷ es)
    by true rest = λ i. none i ++ (f e ++ flat_map f es)
    by false rest = ap (λ xs. f e ++ xs) rest

two_apart : (a b x y : ℕ) → is_same_key (x ∷ y ∷ []) (a ∷ b ∷ []) ≡ false → apart (a ∷ b ∷ []) (x ∷ y ∷ []) ≡ true
two_apart a b x y e = grind (arith, nat_tests)

all_apart : {T : Type 0} (owner : DistrictKey) (parts : List (DistrictRows T)) → list_any (is_part (district_numbers owner)) parts ≡ false → list_all (λ part. apart (district_numbers owner) (part_numbers part)) parts ≡ true
all_apart owner [] none = refl
all_apart owner (part ∷ parts) none =
    let here : is_part (district_numbers owner) part ≡ false = grind arith in
    let rest : list_any (is_part (district_numbers owner)) parts ≡ false = grind arith in
    let far : apart (district_numbers owner) (part_numbers part) ≡ true = two_apart owner.warehouse owner.district part.owner.warehouse part.owner.district here in
    λ i. far i && all_apart owner parts rest i

module _ {T : Type 0} (owner : DistrictKey) (room : ℕ) (old new : List (DistrictRows T)) (opened : IsOpened owner room old new) where
  pub rows_opened : flat_map rows_in new ≡ flat_map rows_in old
  rows_opened = ap (flat_map rows_in) opened.put ∙ no_more_rows rows_in (by_key part_numbers) opened.part old opened.empty

  pub owners_opened : (key : List ℕ) → has_owner (map owner_of old) key ≡ true → has_owner (map owner_of new) key ≡ true
  owners_opened key has =
      let there = sym (owner_is_part old key) ∙ has in
      let both = owner_is_part new key ∙ ap (list_any (is_part (take 2 key))) opened.put ∙ any-inserted (by_key part_numbers) (is_part (take 2 key)) opened.part old in
      both ∙ (λ i. is_part (take 2 key) opened.part || there i) ∙ or_true (is_part (take 2 key) opened.part)
    where
      or_true : (b : Bool) → (b || true) ≡ true
      or_true true = refl
      or_true false = refl

  pub owner_opened : has_owner (map owner_of new) (district_numbers owner) ≡ true
  owner_opened =
      let here : is_part (district_numbers owner) opened.part ≡ true = same_if_equal (part_numbers opened.part) (district_numbers owner) (ap district_numbers opened.of_owner) in
      owner_is_part new (district_numbers owner) ∙ ap (list_any (is_part (district_numbers owner))) opened.put ∙ any-inserted (by_key part_numbers) (is_part (district_numbers owner)) opened.part old ∙ (λ i. here i || list_any (is_part (district_numbers owner)) old)

  pub parts_opened : (key : T → List ℕ) (len : ℕ) → AreDistricts key len room old → position (is_part (district_numbers owner)) old ≡ None → AreDistricts key len room new
  parts_opened key len kept none =
      let absent = none_before (is_part (district_numbers owner)) old (list_any (is_part (district_numbers owner)) old) refl none in
      let own : owns key opened.part ≡ true = ap (list_all (λ row. is_of opened.part.owner (key row))) opened.empty in
      let less : length opened.part.rows.items ≡ 0 = ap length opened.empty in
      record {
        ascending = ap (is_ascending part_numbers) opened.put ∙ ascending-inserted part_numbers opened.part old kept.ascending (ap (λ (k : DistrictKey). list_all (λ part. apart (district_numbers k) (part_numbers part)) old) opened.of_owner ∙ all_apart owner old absent);
        own = ap (list_all (owns key)) opened.put ∙ list_all-inserted (by_key part_numbers) (owns key) opened.part old ∙ (λ i. own i && kept.own i);
        counted = kept.counted ∙ ap length (sym rows_opened);
        roomy = subst (All (HasRoom room)) (sym opened.put) (all_inserted (HasRoom room) (by_key part_numbers) opened.part old (omega (arith, less, opened.roomy)) kept.roomy);
        bound = kept.bound;
      }

-- ---- parts with more room

module _ {T : Type 0} (old new : List (DistrictRows T)) (same : map owner_and_rows new ≡ map owner_and_rows old) where
  pub rows_shown : flat_map rows_in new ≡ flat_map rows_in old
  rows_shown =
      let by_rows = λ (parts : List (DistrictRows T)). flat_map-map (λ (s : DistrictKey × List T). s.1) owner_and_rows parts in
      sym (by_rows new) ∙ ap (flat_map (λ (s : DistrictKey × List T). s.1)) same ∙ by_rows old

  pub owners_shown : map owner_of new ≡ map owner_of old
  owners_shown = map-shown owner_and_rows (λ (s : DistrictKey × List T). s.0) new ∙ ap (map (λ (s : DistrictKey × List T). s.0)) same ∙ sym (map-shown owner_and_rows (λ (s : DistrictKey × List T). s.0) old)

  pub parts_shown : (key : T → List ℕ) (len room more : ℕ) → AreDistricts key len room old → All (HasRoom more) new → len + more < 2 ^ 64 → AreDistricts key len more new
  parts_shown key len room more kept roomy fits =
      let mine = λ (s : DistrictKey × List T). list_all (λ row. is_of s.0 (key row)) s.1 in
      record {
        ascending = ascending-shown owner_and_rows (λ (s : DistrictKey × List T). district_numbers s.0) new ∙ ap (is_ascending (λ (s : DistrictKey × List T). district_numbers s.0)) same ∙ sym (ascending-shown owner_and_rows (λ (s : DistrictKey × List T). district_numbers s.0) old) ∙ kept.ascending;
        own = all-shown owner_and_rows mine new ∙ ap (list_all mine) same ∙ sym (all-shown owner_and_rows mine old) ∙ kept.own;
        counted = kept.counted ∙ ap length (sym rows_shown);
        roomy = roomy;
        bound = fits;
      }

module _ {T : Type 0} (room n : ℕ) (old now : List (DistrictRows T)) (grown : IsGrown room n old now) (part changed : DistrictRows T) (lt : n < length now) (here : part ≡ get_or now n part) (owner : changed.owner ≡ part.owner) (rows : changed.rows.items ≡ part.rows.items) (capacity : part.rows.capacity ≤ changed.rows.capacity) where
  still_shown : map owner_and_rows (set now n changed) ≡ map owner_and_rows old
  still_shown = map-set_same owner_and_rows now n changed part ((λ i. (owner i, rows i)) ∙ ap owner_and_rows here) ∙ grown.same

  still_roomy : (less : ℕ) → All (HasRoom less) old → All (HasRoom less) (set now n changed)
  still_roomy less h =
      let all = grown.kept less h in
      let was : HasRoom less part = subst (HasRoom less) (sym here) (all n part lt) in
      let equal : length changed.rows.items ≡ length part.rows.items = ap length rows in
      All-set (HasRoom less) now n changed (omega (arith, was, equal, capacity)) all

  -- where the growth was refused
  pub grown_stopped : IsGrown room n old (set now n changed)
  grown_stopped = record { same = still_shown; kept = still_roomy; first = AllWithin-kept now n changed lt (HasRoom room) grown.first }

  pub grown_more : HasRoom room changed → IsGrown room (n + 1) old (set now n changed)
  grown_more h = record { same = still_shown; kept = still_roomy; first = AllWithin-more_set now n changed lt (HasRoom room) grown.first h }

pub same_long : {T : Type 0} (old now : List (DistrictRows T)) → map owner_and_rows now ≡ map owner_and_rows old → length now ≡ length old
same_long old now same = sym (length-map now owner_and_rows) ∙ ap length same ∙ length-map old owner_and_rows
