-- An order's lines among those of its district.
use Rattle.std.proofs.Common.{◌≡◌, ◌∙◌, ℕ, Bool, true, List, [], ◌∷◌, length, refl, ap, arith}
use Rattle.std.specs.Prelude.{filter, find, take}
use Rattle.std.specs.List.{list_all}
use Rattle.std.proofs.lemmas.Bool.Decides.{nat_tests}
use Rattle.tpcc_rows.specs.declared.tables.keys.DistrictKey.{DistrictKey}
use Rattle.tpcc_rows.specs.declared.tables.rows.OrderLineRow.{OrderLineRow}
use Rattle.tpcc_rows.specs.Lists.{is_ascending, key_before, updated}
use Rattle.tpcc_rows.specs.Tables.{is_line_of, order_line_key}
use Rattle.tpcc_laws.proofs.DeliveryKeys.{list_all-filter}
use Rattle.tpcc_laws.proofs.List.{list_all-updated}
use Rattle.tpcc_storage.specs.Internal.DistrictRows.{DistrictRows}
use Rattle.tpcc_storage.specs.ByDistrict.{district_numbers, is_of}
use Rattle.tpcc_storage.specs.Runs.{is_line_between}
use Rattle.tpcc_storage.specs.Internal.DistrictWords.{owns}
use Rattle.tpcc_storage.proofs.Keys.{same_if_equal}
use Rattle.tpcc_storage.proofs.Part.{AsksFor}

-- rows that were chosen are in order as they were
pub ascending_chosen : {X : Type 0} (key : X → List ℕ) (q : X → Bool) (xs : List X) → is_ascending key xs ≡ true → is_ascending key (filter q xs) ≡ true
ascending_chosen key q [] up = refl
ascending_chosen key q (x ∷ xs) up = grind (arith, list_all-filter (λ later. key_before (key x) (key later)) q xs, ascending_chosen key q xs)

-- a choice among rows that pass a wider test
pub chosen_within : {X : Type 0} (p q : X → Bool) → ((x : X) → p x ≡ true → q x ≡ true) → (xs : List X) → filter p (filter q xs) ≡ filter p xs
chosen_within p q wider [] = refl
chosen_within p q wider (x ∷ xs) = grind (arith, wider x, chosen_within p q wider xs)

pub found_within : {X : Type 0} (p q : X → Bool) → ((x : X) → p x ≡ true → q x ≡ true) → (xs : List X) → find p (filter q xs) ≡ find p xs
found_within p q wider [] = refl
found_within p q wider (x ∷ xs) = grind (arith, wider x, found_within p q wider xs)

-- what asks for a district is of it
pub asks_of : {T : Type 0} (key : T → List ℕ) (owner : DistrictKey) (q : T → Bool) → AsksFor key (district_numbers owner) q → (row : T) → q row ≡ true → is_of owner (key row) ≡ true
asks_of key owner q asks row e = same_if_equal (take 2 (key row)) (district_numbers owner) (asks row e)

pub line_asks : (w d o : ℕ) → AsksFor order_line_key (w ∷ d ∷ []) (is_line_of w d o)
line_asks w d o l e =
    let a : l.warehouse ≡ w = grind (arith, nat_tests) in
    let b : l.district ≡ d = grind (arith, nat_tests) in
    λ i. a i ∷ b i ∷ []

pub line_is_of : (owner : DistrictKey) (o : ℕ) (l : OrderLineRow) → is_line_of owner.warehouse owner.district o l ≡ true → is_of owner (order_line_key l) ≡ true
line_is_of owner o l e = same_if_equal (take 2 (order_line_key l)) (owner.warehouse ∷ owner.district ∷ []) (line_asks owner.warehouse owner.district o l e)

pub between_is_of : (owner : DistrictKey) (a b : ℕ) (l : OrderLineRow) → is_line_between owner.warehouse owner.district a b l ≡ true → is_of owner (order_line_key l) ≡ true
between_is_of owner a b l e =
    let w : l.warehouse ≡ owner.warehouse = grind (arith, nat_tests) in
    let d : l.district ≡ owner.district = grind (arith, nat_tests) in
    same_if_equal (take 2 (order_line_key l)) (owner.warehouse ∷ owner.district ∷ []) (λ i. w i ∷ d i ∷ [])

-- a part owns its rows after a change that keeps their keys
pub owns_updated : {T : Type 0} (key : T → List ℕ) (q : T → Bool) (change : T → T) → ((x : T) → key (change x) ≡ key x) → (part changed : DistrictRows T) → changed.owner ≡ part.owner → owns key part ≡ true → changed.rows.items ≡ updated q change part.rows.items → owns key changed ≡ true
owns_updated key q change keeps part changed same own is =
    ap (λ (k : DistrictKey). list_all (λ row. is_of k (key row)) changed.rows.items) same
    ∙ ap (list_all (λ row. is_of part.owner (key row))) is
    ∙ list_all-updated (λ row. is_of part.owner (key row)) (λ row. is_of part.owner (key row)) q change (λ x h e. h) (λ x h e. ap (is_of part.owner) (keeps x) ∙ h) part.rows.items own

pub length_updated : {X : Type 0} (q : X → Bool) (change : X → X) (xs : List X) → length (updated q change xs) ≡ length xs
length_updated q change [] = refl
length_updated q change (x ∷ xs) = grind (arith, length_updated q change xs)
