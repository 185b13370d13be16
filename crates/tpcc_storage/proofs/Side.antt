-- Where the parts of other districts stand round a new row.
use Rattle.std.proofs.Common.{◌≡◌, ◌∙◌, ℕ, Bool, true, false, List, [], ◌∷◌, refl, ap, sym, arith}
use Rattle.std.specs.Prelude.{◌&&◌, not, if◌then◌else◌}
use Rattle.std.specs.List.{list_all}
use Rattle.tpcc_rows.specs.Lists.{key_before, is_ascending}
use Rattle.tpcc_laws.proofs.List.{has_one}
use Rattle.tpcc_storage.proofs.Flat.{outer_sides}

-- E: an entry with its key columns; X: its rows, whose key columns begin with the entry's
module _ {E X : Type 0} (f : E → List X) (p : E → Bool) (entry_key : E → List ℕ) (before : X → X → Bool) (new : X) where
  -- what one entry knows of its own rows against the new row: by keys below, equal and above
  pub record IsAround (k : List ℕ) (own : E → Bool) : Type 0 where
    pub passes : (e : E) → p e ≡ true → entry_key e ≡ k
    pub past : (e : E) → own e ≡ true → key_before (entry_key e) k ≡ true → list_all (λ x. not (before new x)) (f e) ≡ true
    pub later : (e : E) → own e ≡ true → key_before k (entry_key e) ≡ true → list_all (λ x. before new x) (f e) ≡ true

  both : (a b : Bool) → a ≡ true → b ≡ true → (a && b) ≡ true
  both a b h k = grind arith

  all_later : (k : List ℕ) (own : E → Bool) → IsAround k own → (es : List E) → list_all own es ≡ true → list_all (λ e. key_before k (entry_key e)) es ≡ true → list_all (λ d. list_all (λ x. before new x) (f d)) es ≡ true
  all_later k own a [] mine above = refl
  all_later k own a (e ∷ es) mine above =
      let m : own e ≡ true = grind arith in
      let u : key_before k (entry_key e) ≡ true = grind arith in
      let ms : list_all own es ≡ true = grind arith in
      let us : list_all (λ e. key_before k (entry_key e)) es ≡ true = grind arith in
      both _ _ (a.later e m u) (all_later k own a es ms us)

  before_one : (k : List ℕ) (own : E → Bool) → IsAround k own → (x : E) (es : List E) → has_one p es ≡ true → list_all (λ e. key_before (entry_key x) (entry_key e)) es ≡ true → key_before (entry_key x) k ≡ true
  before_one k own a x [] one above = cc
  before_one k own a x (e ∷ es) one above = here (p e) refl (before_one k own a x es)
    where
      here : (b : Bool) → p e ≡ b → (has_one p es ≡ true → list_all (λ e. key_before (entry_key x) (entry_key e)) es ≡ true → key_before (entry_key x) k ≡ true) → key_before (entry_key x) k ≡ true
      here true is next =
          let u : key_before (entry_key x) (entry_key e) ≡ true = grind arith in
          ap (key_before (entry_key x)) (sym (a.passes e is)) ∙ u
      here false is next =
          let o : has_one p es ≡ true = grind (arith, is) in
          let us : list_all (λ e. key_before (entry_key x) (entry_key e)) es ≡ true = grind arith in
          next o us

  side_step : (e : E) (es : List E) (b : Bool) → p e ≡ b → (b ≡ false → list_all (λ x. not (before new x)) (f e) ≡ true) → (b ≡ true → list_all (λ d. list_all (λ x. before new x) (f d)) es ≡ true) → (b ≡ false → outer_sides f p before new es ≡ true) → (if b then list_all (λ d. list_all (λ x. before new x) (f d)) es else list_all (λ x. not (before new x)) (f e) && outer_sides f p before new es) ≡ true
  side_step e es true is here later next = later refl
  side_step e es false is here later next = both _ _ (here refl) (next refl)

  one_after : (e : E) (es : List E) → has_one p (e ∷ es) ≡ true → p e ≡ false → has_one p es ≡ true
  one_after e es one is = grind arith

  -- entries in ascending order, of which one takes the new row, stand round it
  pub sides_from_order : (k : List ℕ) (own : E → Bool) → IsAround k own → (es : List E) → list_all own es ≡ true → is_ascending entry_key es ≡ true → has_one p es ≡ true → outer_sides f p before new es ≡ true
  sides_from_order k own a [] mine rising one = one
  sides_from_order k own a (e ∷ es) mine rising one =
      let m : own e ≡ true = grind arith in
      let ms : list_all own es ≡ true = grind arith in
      let up : list_all (λ d. key_before (entry_key e) (entry_key d)) es ≡ true = grind arith in
      let rest : is_ascending entry_key es ≡ true = grind arith in
      let o : p e ≡ false → has_one p es ≡ true = λ is. one_after e es one is in
      side_step e es (p e) refl (λ is. a.past e m (before_one k own a e es (o is) up))
      (λ is. all_later k own a es ms (ap (λ l. list_all (λ d. key_before l (entry_key d)) es) (sym (a.passes e is)) ∙ up))
      (λ is. sides_from_order k own a es ms rest (o is))
