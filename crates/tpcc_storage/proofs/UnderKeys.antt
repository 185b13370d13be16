-- Rows that stand in a map, each at its own key.
use Rattle.std.proofs.Common.{◌≡◌, ℕ, zero, suc, ◌<◌, Bool, true, false, cond, List, [], ◌∷◌, ◌++◌, length, take, refl, ap, sym, ◌∙◌, arith, get_or, slice_get, Some, None}
use Rattle.std.specs.Prelude.{find, position, not, nat_lt, insert, ◌+◌}
use Rattle.std.specs.List.{list_all, list_any, position_or_len}
use Rattle.std.specs.Map.{keys_of, values_of, lookup}
use Rattle.std.proofs.lemmas.List.Folds.{list_all-append}
use Rattle.indexmap.specs.IndexMap.{set_value_at}
use Rattle.tpcc_rows.specs.Lists.{by_key, is_ascending, key_before, updated}
use Rattle.tpcc_laws.proofs.List.{has_one, updated_absent}
use Rattle.tpcc_storage.specs.Searches.{is_same_key}
use Rattle.tpcc_storage.specs.Internal.KeyedRows.{AreUnderKeys}
use Rattle.tpcc_storage.proofs.Keys.{same_keys, not_before_itself}
use Rattle.tpcc_storage.proofs.Halves.{all_at, apart_before}

pub length_values : {K T : Type 0} (es : List (K × T)) → length (values_of es) ≡ length es
length_values [] = refl
length_values (e ∷ es) = ap suc (length_values es)

length_keys : {K T : Type 0} (es : List (K × T)) → length (keys_of es) ≡ length es
length_keys [] = refl
length_keys (e ∷ es) = ap suc (length_keys es)

pub values_pushed : {K T : Type 0} (es : List (K × T)) (k : K) (row : T) → values_of (es ++ (k, row) ∷ []) ≡ values_of es ++ row ∷ []
values_pushed [] k row = refl
values_pushed (e ∷ es) k row = ap (λ rows. e.1 ∷ rows) (values_pushed es k row)

pub values_inserted : {K T : Type 0} (es : List (K × T)) (i : ℕ) (k : K) (row : T) → values_of (insert es i (k, row)) ≡ insert (values_of es) i row
values_inserted [] zero k row = refl
values_inserted [] (suc i) k row = refl
values_inserted (e ∷ es) zero k row = refl
values_inserted (e ∷ es) (suc i) k row = ap (λ rows. e.1 ∷ rows) (values_inserted es i k row)

-- no two keys that are the same as a third stand in order
pub keys_apart : (a b k : List ℕ) → is_same_key a k ≡ true → is_same_key b k ≡ true → key_before a b ≡ false
keys_apart a b k e f = ap (λ n. key_before n b) (same_keys a k e ∙ sym (same_keys b k f)) ∙ not_before_itself b

any_there : {K T : Type 0} (q : T → Bool) (es : List (K × T)) (i : ℕ) (x : T) → slice_get (values_of es) i ≡ Some x → q x ≡ true → list_any q (values_of es) ≡ true
any_there q [] i x at p = cc
any_there q (e ∷ es) zero x at p = grind arith
any_there q (e ∷ es) (suc i) x at p = grind (arith, any_there q es i x)

-- a write at the place of the one row that passes is an update
pub values_set : {K T : Type 0} (q : T → Bool) (change : T → T) (es : List (K × T)) (i : ℕ) (x w : T) → slice_get (values_of es) i ≡ Some x → q x ≡ true → has_one q (values_of es) ≡ true → w ≡ change x → values_of (set_value_at es i w) ≡ updated q change (values_of es)
values_set q change [] i x w at p one e = cc
values_set q change (y ∷ es) zero x w at p one e = grind (arith, updated_absent q change (values_of es))
values_set q change (y ∷ es) (suc i) x w at p one e = grind (arith, any_there q es i x, values_set q change es i x w)

module _ {K T : Type 0} (key : T → List ℕ) (numbers : K → List ℕ) where
  first_is : (e : K × T) (es : List (K × T)) → AreUnderKeys key numbers (e ∷ es) → numbers e.0 ≡ key e.1
  first_is e es h = cc

  rest_are : (e : K × T) (es : List (K × T)) → AreUnderKeys key numbers (e ∷ es) → AreUnderKeys key numbers es
  rest_are e es h = cc

  -- a look-up by a test of keys is one by a test of rows
  module _ (test : K → Bool) (sought : List ℕ) (same : (k : K) → test k ≡ is_same_key (numbers k) sought) where
    here : (e : K × T) → numbers e.0 ≡ key e.1 → test e.0 ≡ is_same_key (key e.1) sought
    here e is = same e.0 ∙ ap (λ n. is_same_key n sought) is

    same_front : (es : List (K × T)) → AreUnderKeys key numbers es → position_or_len test (keys_of es) ≡ position_or_len (λ row. is_same_key (key row) sought) (values_of es)
    same_front [] h = refl
    same_front (e ∷ es) h =
        let now = here e (first_is e es h) in
        let rest = same_front es (rest_are e es h) in
        λ i. cond (not (now i)) (1 + rest i) 0

    pub same_place : (es : List (K × T)) → AreUnderKeys key numbers es → position test (keys_of es) ≡ position (λ row. is_same_key (key row) sought) (values_of es)
    same_place es h = λ i. cond (nat_lt (same_front es h i) ((length_keys es ∙ sym (length_values es)) i)) (Some (same_front es h i)) None

    pub same_row : (es : List (K × T)) → AreUnderKeys key numbers es → lookup test es ≡ find (λ row. is_same_key (key row) sought) (values_of es)
    same_row [] h = refl
    same_row (e ∷ es) h =
        let now = here e (first_is e es h) in
        let rest = same_row es (rest_are e es h) in
        λ i. cond (now i) (Some e.1) (rest i)

  pub under_pushed : (es : List (K × T)) (k : K) (row : T) → numbers k ≡ key row → AreUnderKeys key numbers es → AreUnderKeys key numbers (es ++ (k, row) ∷ [])
  under_pushed [] k row is h = λ i. is i ∷ []
  under_pushed (e ∷ es) k row is h =
      let first = first_is e es h in
      let rest = under_pushed es k row is (rest_are e es h) in
      λ i. first i ∷ rest i

  pub under_inserted : (es : List (K × T)) (i : ℕ) (k : K) (row : T) → numbers k ≡ key row → AreUnderKeys key numbers es → AreUnderKeys key numbers (insert es i (k, row))
  under_inserted [] zero k row is h = λ i. is i ∷ []
  under_inserted [] (suc i) k row is h = λ i. is i ∷ []
  under_inserted (e ∷ es) zero k row is h = λ i. is i ∷ h i
  under_inserted (e ∷ es) (suc n) k row is h =
      let first = first_is e es h in
      let rest = under_inserted es n k row is (rest_are e es h) in
      λ i. first i ∷ rest i

  pub under_set : (es : List (K × T)) (i : ℕ) (x w : T) → slice_get (values_of es) i ≡ Some x → key w ≡ key x → AreUnderKeys key numbers es → AreUnderKeys key numbers (set_value_at es i w)
  under_set [] i x w at same h = refl
  under_set (e ∷ es) zero x w at same h = cc
  under_set (e ∷ es) (suc n) x w at same h =
      let first = first_is e es h in
      let rest = under_set es n x w at same (rest_are e es h) in
      λ i. first i ∷ rest i

module _ {T : Type 0} (key : T → List ℕ) where
  -- no row has the key of one that comes after all
  pub none_has_key : (row : T) (xs : List T) → list_all (λ x. by_key key x row) xs ≡ true → find (λ x. is_same_key (key x) (key row)) xs ≡ None
  none_has_key row [] h = refl
  none_has_key row (x ∷ xs) h =
      let earlier : key_before (key x) (key row) ≡ true = grind arith in
      let others : list_all (λ y. by_key key y row) xs ≡ true = grind arith in
      let other = apart_before (key x) (key row) earlier in
      let rest = none_has_key row xs others in
      λ i. cond (other i) (Some x) (rest i)

  -- rows come after those in front of them
  pub front_before : (before xs : List T) (i : ℕ) (d : T) → is_ascending key (before ++ xs) ≡ true → i < length xs → list_all (λ x. by_key key x (get_or xs i d)) (before ++ take i xs) ≡ true
  front_before [] [] i d h lt = absurd (omega arith)
  front_before [] (x ∷ xs) zero d h lt = refl
  front_before [] (x ∷ xs) (suc i) d h lt =
      let above : list_all (λ later. key_before (key x) (key later)) xs ≡ true = grind arith in
      let rest : is_ascending key xs ≡ true = grind arith in
      grind (arith, all_at (λ later. key_before (key x) (key later)) xs i d above (omega arith), front_before [] xs i d rest (omega arith))
  front_before (b ∷ before) xs i d h lt =
      let above : list_all (λ later. key_before (key b) (key later)) (before ++ xs) ≡ true = grind arith in
      let rest : is_ascending key (before ++ xs) ≡ true = grind arith in
      let behind : list_all (λ later. key_before (key b) (key later)) xs ≡ true = grind (arith, above, list_all-append (λ later. key_before (key b) (key later)) before xs) in
      grind (arith, all_at (λ later. key_before (key b) (key later)) xs i d behind lt, front_before before xs i d rest lt)
