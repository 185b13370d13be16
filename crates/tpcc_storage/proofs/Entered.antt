-- A new entry put at a place of a map.
use Rattle.std.proofs.Common.{◌≡◌, ℕ, ◌≤◌, Bool, List, [], ◌∷◌, ◌++◌, length, refl, ap, ◌∙◌, arith, slice_get}
use Rattle.std.specs.Prelude.{Some, None, insert, remove}
use Rattle.std.specs.List.{position_or_len}
use Rattle.std.specs.Option.{option_map_or}
use Rattle.std.specs.Map.{keys_of, lookup}
use Rattle.std.proofs.lemmas.Bool.Decides.{nat_tests}
use Rattle.indexmap.specs.IndexMap.{IndexMap, index_map_len, get, insert_entry, insert_index, move_index, index_before}
use Rattle.indexmap.proofs.CallerLemmas.{insert_entry-new}

index_absent : {K E : Type 0} (test : K → Bool) (es : List (K × E)) → lookup test es ≡ None → position_or_len test (keys_of es) ≡ length es
index_absent test [] e = refl
index_absent test (x ∷ es) e = grind (arith, index_absent test es)

get_last : {X : Type 0} (xs : List X) (y : X) → slice_get (xs ++ y ∷ []) (length xs) ≡ Some y
get_last [] y = refl
get_last (x ∷ xs) y = get_last xs y

remove_last : {X : Type 0} (xs : List X) (y : X) → remove (xs ++ y ∷ []) (length xs) ≡ xs
remove_last [] y = refl
remove_last (x ∷ xs) y = ap (λ zs. x ∷ zs) (remove_last xs y)

moved : {X : Type 0} (xs : List X) (y : X) (to : ℕ) → move_index (xs ++ y ∷ []) (length xs) to ≡ insert xs to y
moved xs y to =
    ap (λ o. option_map_or (λ x. insert (remove (xs ++ y ∷ []) (length xs)) to x) o (xs ++ y ∷ [])) (get_last xs y) ∙ ap (λ zs. insert zs to y) (remove_last xs y)

before_last : (n i : ℕ) → i ≤ n → index_before n i ≡ i
before_last n i le = grind (arith, nat_tests)

-- a new key moved before the entry at i
pub inserted_entry : {K E S : Type 0} (eq : K → K → Bool) (m : IndexMap K E S) (k : K) (v : E) (i to : ℕ) → get eq m k ≡ None → i ≤ index_map_len m → to ≡ index_before (insert_index eq m k) i → move_index (insert_entry eq m.entries k v) (insert_index eq m k) to ≡ insert m.entries i (k, v)
inserted_entry eq m k v i to none le e =
    let at : insert_index eq m k ≡ length m.entries = index_absent (eq k) m.entries none in
    let put : insert_entry eq m.entries k v ≡ m.entries ++ (k, v) ∷ [] = insert_entry-new eq m k v none in
    let t : to ≡ i = e ∙ ap (λ n. index_before n i) at ∙ before_last (length m.entries) i le in
    (λ j. move_index (put j) (at j) (t j)) ∙ moved m.entries (k, v) i
