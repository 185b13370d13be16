-- Orders that wait, numbered one after another.
use Rattle.std.proofs.Common.{◌≡◌, ◌∙◌, ℕ, zero, suc, ◌+◌, ◌<◌, ◌≤◌, Bool, true, false, List, [], ◌∷◌, ◌++◌, length, remove, refl, ap, sym, arith, slice_get, take, Some, None}
use Rattle.std.specs.Prelude.{◌&&◌, position}
use Rattle.std.specs.List.{list_all, position_or_len}
use Rattle.std.proofs.lemmas.List.{take_all}
use Rattle.std.proofs.lemmas.Bool.Decides.{nat_tests}
use Rattle.tpcc_rows.specs.declared.tables.rows.NewOrderRow.{NewOrderRow}
use Rattle.tpcc_rows.specs.Lists.{by_key, inserted, is_ascending, key_before}
use Rattle.tpcc_rows.specs.Tables.{new_order_key}
use Rattle.tpcc_storage.specs.Searches.{is_same_key}
use Rattle.tpcc_storage.specs.Internal.OrderRange.{later, range}
use Rattle.tpcc_storage.proofs.Keys.{one_before}
use Rattle.tpcc_storage.proofs.Flat.{append_nil}
use Rattle.tpcc_storage.proofs.Halves.{one_longer, position_is_none}

later_none : (first : NewOrderRow) → later first 0 ≡ first
later_none first = let e : first.order + 0 ≡ first.order = omega arith in λ i. record first { order = e i }

later_later : (first : NewOrderRow) (n : ℕ) → later (later first 1) n ≡ later first (suc n)
later_later first n = let e : first.order + 1 + n ≡ first.order + suc n = omega arith in λ i. record first { order = e i }

later_next : (first : NewOrderRow) (n : ℕ) → later (later first n) 1 ≡ later first (n + 1)
later_next first n = let e : first.order + n + 1 ≡ first.order + (n + 1) = omega arith in λ i. record first { order = e i }

pub length_range : (first : NewOrderRow) (n : ℕ) → length (range first n) ≡ n
unfolding range
length_range first zero = refl
length_range first (suc n) = ap suc (length_range (later first 1) n)

pub get_range : (first : NewOrderRow) (n i : ℕ) → i < n → slice_get (range first n) i ≡ Some (later first i)
unfolding range
get_range first zero i lt = absurd (omega arith)
get_range first (suc n) zero lt = ap Some (sym (later_none first))
get_range first (suc n) (suc i) lt = get_range (later first 1) n i (omega arith) ∙ ap Some (later_later first i)

pub get_past : (first : NewOrderRow) (n i : ℕ) → n ≤ i → slice_get (range first n) i ≡ None
unfolding range
get_past first zero i le = refl
get_past first (suc n) zero le = absurd (omega arith)
get_past first (suc n) (suc i) le = get_past (later first 1) n i (omega arith)

-- one more behind the others
pub range_more : (first : NewOrderRow) (n : ℕ) → range first (suc n) ≡ range first n ++ later first n ∷ []
unfolding range
range_more first zero = ap (λ row. row ∷ []) (sym (later_none first))
range_more first (suc n) = ap (λ rows. first ∷ rows) (range_more (later first 1) n ∙ ap (λ row. range (later first 1) n ++ row ∷ []) (later_later first n))

pub range_first : (first : NewOrderRow) (n : ℕ) → range (later first 1) n ≡ remove (range first (suc n)) 0
unfolding range
range_first first n = refl

pub range_last : (first : NewOrderRow) (n : ℕ) → range first n ≡ remove (range first (suc n)) n
unfolding range
range_last first zero = refl
range_last first (suc n) = ap (λ rows. first ∷ rows) (range_last (later first 1) n)

earlier : (first : NewOrderRow) (m n : ℕ) → 0 < m → list_all (λ row. key_before (new_order_key first) (new_order_key row)) (range (later first m) n) ≡ true
unfolding range
earlier first m zero lt = refl
earlier first m (suc n) lt =
    let here : key_before (new_order_key first) (new_order_key (later first m)) ≡ true = grind (arith, nat_tests) in
    let rest = ap (λ row. list_all (λ later. key_before (new_order_key first) (new_order_key later)) (range row n)) (later_next first m) ∙ earlier first (m + 1) n (omega arith) in
    λ i. here i && rest i

pub range_rises : (first : NewOrderRow) (n : ℕ) → is_ascending new_order_key (range first n) ≡ true
unfolding range
range_rises first zero = refl
range_rises first (suc n) = λ i. earlier first 1 n (omega arith) i && range_rises (later first 1) n i

none_in : (first : NewOrderRow) (n : ℕ) (k : List ℕ) → ((i : ℕ) → i < n → is_same_key (new_order_key (later first i)) k ≡ false) → position_or_len (λ row. is_same_key (new_order_key row) k) (range first n) ≡ length (range first n)
unfolding range
none_in first zero k other = refl
none_in first (suc n) k other =
    let here = ap (λ row. is_same_key (new_order_key row) k) (sym (later_none first)) ∙ other 0 (omega arith) in
    let rest = none_in (later first 1) n k (λ i lt. ap (λ row. is_same_key (new_order_key row) k) (later_later first i) ∙ other (suc i) (omega (arith, lt))) in
    one_longer (λ row. is_same_key (new_order_key row) k) first (range (later first 1) n) here rest

-- a row that would stand at no place, or is not the one there
pub nowhere : (first : NewOrderRow) (n w d o : ℕ) → ((i : ℕ) → i < n → first.order + i ≡ o → is_same_key (new_order_key (later first i)) (w ∷ d ∷ o ∷ []) ≡ false) → None ≡ position (λ row. is_same_key (new_order_key row) (w ∷ d ∷ o ∷ [])) (range first n)
nowhere first n w d o unlike = sym (position_is_none (λ row. is_same_key (new_order_key row) (w ∷ d ∷ o ∷ [])) (range first n) (none_in first n (w ∷ d ∷ o ∷ []) other))
  where
    by : (i : ℕ) → i < n → (b : Bool) → is_same_key (new_order_key (later first i)) (w ∷ d ∷ o ∷ []) ≡ b → is_same_key (new_order_key (later first i)) (w ∷ d ∷ o ∷ []) ≡ false
    by i lt false is = is
    by i lt true is =
        let same : first.order + i ≡ o = grind (arith, nat_tests) in
        unlike i lt same

    other : (i : ℕ) → i < n → is_same_key (new_order_key (later first i)) (w ∷ d ∷ o ∷ []) ≡ false
    other i lt = by i lt (is_same_key (new_order_key (later first i)) (w ∷ d ∷ o ∷ [])) refl

-- ---- a row behind all others

last_passes : {X : Type 0} (test : X → Bool) (xs : List X) (row : X) → list_all test (xs ++ row ∷ []) ≡ true → test row ≡ true
last_passes test [] row h = grind arith
last_passes test (x ∷ xs) row h = grind (arith, last_passes test xs row)

pub inserted_last : {X : Type 0} (key : X → List ℕ) (xs : List X) (row : X) → is_ascending key (xs ++ row ∷ []) ≡ true → inserted (by_key key) row xs ≡ xs ++ row ∷ []
inserted_last key [] row up = refl
inserted_last key (x ∷ xs) row up =
    let above : list_all (λ later. key_before (key x) (key later)) (xs ++ row ∷ []) ≡ true = grind (arith, up) in
    let rest : is_ascending key (xs ++ row ∷ []) ≡ true = grind (arith, up) in
    let here : key_before (key row) (key x) ≡ false = one_before (key x) (key row) (last_passes (λ later. key_before (key x) (key later)) xs row above) in
    grind (arith, here, inserted_last key xs row rest)

-- a row that goes on with the range is put among the rows
pub range_put : (before pushed listed grown rows : List NewOrderRow) (row : NewOrderRow) → length listed ≡ 0 → grown ≡ listed → pushed ≡ before ++ row ∷ [] → is_ascending new_order_key pushed ≡ true → before ++ listed ≡ rows → pushed ++ grown ≡ inserted (by_key new_order_key) row rows
range_put before pushed [] grown rows row none same is up whole =
    ap (λ later. pushed ++ later) same
    ∙ append_nil pushed
    ∙ is
    ∙ sym (inserted_last new_order_key before row (ap (is_ascending new_order_key) (sym is) ∙ up))
    ∙ ap (inserted (by_key new_order_key) row) (sym (append_nil before) ∙ whole)
range_put before pushed (x ∷ listed) grown rows row none same is up whole = absurd (omega (arith, none))

-- all rows of a range listed behind those of a list, which has none where the range has one
pub all_listed : {X : Type 0} (range old now : List X) (n : ℕ) → (0 < length range → old ≡ []) → length range ≤ n → now ≡ old ++ take n range → now ≡ range ++ old
all_listed [] old now n alone le e = e ∙ ap (λ rows. old ++ rows) (take_all n [] le) ∙ append_nil old
all_listed (x ∷ xs) old now n alone le e =
    let none : old ≡ [] = alone (omega arith) in
    e ∙ ap (λ rows. old ++ rows) (take_all n (x ∷ xs) le) ∙ ap (λ rows. rows ++ (x ∷ xs)) none ∙ sym (append_nil (x ∷ xs)) ∙ ap (λ rows. (x ∷ xs) ++ rows) (sym none)
