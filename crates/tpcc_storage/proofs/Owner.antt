-- Districts that have a part, and the place of the part.
use Rattle.std.proofs.Common.{◌≡◌, ◌∙◌, ℕ, Bool, true, false, List, [], ◌∷◌, map, refl, ap, sym, arith, get_or}
use Rattle.std.specs.Prelude.{OnErr, OnOk, Option, Some, None, ◌||◌, find, is_some, position, take}
use Rattle.std.specs.declared.result.Result.{Result}
use Rattle.std.specs.declared.result.Result.TheVariants.{Ok, Err}
use Rattle.std.specs.List.{list_any}
use Rattle.tpcc_rows.specs.declared.tables.keys.DistrictKey.{DistrictKey}
use Rattle.tpcc_storage.specs.Internal.DistrictRows.{DistrictRows}
use Rattle.tpcc_storage.specs.ByDistrict.{district_numbers, has_owner}
use Rattle.tpcc_storage.specs.Internal.DistrictWords.{owner_of, part_numbers, is_part}
use Rattle.tpcc_storage.proofs.Keys.{same_swapped}
use Rattle.tpcc_storage.proofs.Place.{found_row, found_there, none_before}

-- a district has a part exactly where the search finds one
pub owner_is_part : {T : Type 0} (parts : List (DistrictRows T)) (key : List ℕ) → has_owner (map owner_of parts) key ≡ list_any (is_part (take 2 key)) parts
owner_is_part [] key = refl
owner_is_part (part ∷ parts) key = λ i. same_swapped (take 2 key) (part_numbers part) i || owner_is_part parts key i

pub any_placed : {X : Type 0} (p : X → Bool) (xs : List X) (o : Option ℕ) → o ≡ position p xs → list_any p xs ≡ true → is_some o ≡ true
any_placed p xs None is any =
    let none = none_before p xs (list_any p xs) refl (sym is) in
    cc
any_placed p xs (Some i) is any = refl

found_any : {X : Type 0} (p : X → Bool) (xs : List X) (x : X) → find p xs ≡ Some x → list_any p xs ≡ true
found_any p [] x e = cc
found_any p (y ∷ xs) x e = grind (arith, found_any p xs x)

pub placed_any : {X : Type 0} (p : X → Bool) (xs : List X) (o : Option ℕ) → o ≡ position p xs → is_some o ≡ true → list_any p xs ≡ true
placed_any p xs None is some = cc
placed_any p [] (Some i) is some = cc
placed_any p (x ∷ xs) (Some i) is some = found_any p (x ∷ xs) (get_or (x ∷ xs) i x) (found_there p (x ∷ xs) i x (sym is))

-- what stands at one place is one
pub same_there : {X : Type 0} (p : X → Bool) (xs : List X) (i : ℕ) (a b : X) → position p xs ≡ Some i → a ≡ get_or xs i a → b ≡ get_or xs i b → a ≡ b
same_there p xs i a b at one other =
    let both = sym (found_row p xs i a at one) ∙ found_row p xs i b at other in
    cc

-- where a district's key is the row's own, its part is found
pub part_placed : {T : Type 0} (parts : List (DistrictRows T)) (owners : List DistrictKey) (owner : DistrictKey) (key : List ℕ) (seen : List (DistrictRows T)) (o : Option ℕ) → map owner_of parts ≡ owners → has_owner owners key ≡ true → district_numbers owner ≡ take 2 key → seen ≡ parts → o ≡ position (is_part (district_numbers owner)) seen → is_some o ≡ true
part_placed parts owners owner key seen o are has own same is =
    any_placed (is_part (district_numbers owner)) parts o (is ∙ ap (position (is_part (district_numbers owner))) same)
    (ap (λ k. list_any (is_part k) parts) own ∙ sym (owner_is_part parts key) ∙ ap (λ os. has_owner os key) are ∙ has)

-- what a result says of both its cases
pub on_either : {X E A B P : Type 0} (r : Result X E) → OnOk r A → OnErr r B → (A → P) → (B → P) → P
on_either (Ok x) a b f h = f a
on_either (Err e) a b f h = h b

pub on_ok_then : {X E A P : Type 0} (r : Result X E) → OnOk r A → (A → P) → OnOk r P
on_ok_then (Ok x) a f = f a
on_ok_then (Err e) a f = tt

pub on_err_any : {X E P : Type 0} (r : Result X E) → P → OnErr r P
on_err_any (Ok x) p = tt
on_err_any (Err e) p = p

pub no_place : {X : Type 0} (p : X → Bool) (seen xs : List X) (o : Option ℕ) → seen ≡ xs → o ≡ position p seen → is_some o ≡ false → position p xs ≡ None
no_place p seen xs None same is none = ap (position p) (sym same) ∙ sym is
no_place p seen xs (Some i) same is none = cc
