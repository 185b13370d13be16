-- Lists kept in parts, one part for each entry, as the whole list.
use Rattle.std.proofs.Common.{◌≡◌, ◌∙◌, Bool, true, false, List, [], ◌∷◌, ◌++◌, refl, ap, sym, arith}
use Rattle.std.specs.Prelude.{filter, find, Some, ◌&&◌, ◌||◌, not, if◌then◌else◌, flat_map}
use Rattle.std.specs.List.{list_all, list_any}
use Rattle.std.proofs.lemmas.List.Folds.{list_all-append, list_any-append}
use Rattle.tpcc_rows.specs.Lists.{updated, inserted}
use Rattle.tpcc_laws.proofs.List.{filter-append, has_one, updated_absent}
use Rattle.tpcc_storage.proofs.Change.{kept_all}
use Rattle.tpcc_storage.proofs.Halves.{none_found}

-- ---- two parts

pub find-append_none : {X : Type 0} (q : X → Bool) (xs ys : List X) → list_any q xs ≡ false → find q (xs ++ ys) ≡ find q ys
find-append_none q [] ys e = refl
find-append_none q (x ∷ xs) ys e = grind (arith, find-append_none q xs ys)

pub find-append_left : {X : Type 0} (q : X → Bool) (xs ys : List X) → list_any q ys ≡ false → find q (xs ++ ys) ≡ find q xs
find-append_left q [] ys e = none_found q ys e
find-append_left q (x ∷ xs) ys e = grind (arith, find-append_left q xs ys)

pub updated-append : {X : Type 0} (q : X → Bool) (change : X → X) (xs ys : List X) → updated q change (xs ++ ys) ≡ updated q change xs ++ updated q change ys
updated-append q change [] ys = refl
updated-append q change (x ∷ xs) ys = ap (λ zs. (if q x then change x else x) ∷ zs) (updated-append q change xs ys)

pub all-append : {X : Type 0} (t : X → Bool) (xs ys : List X) → list_all t xs ≡ true → list_all t ys ≡ true → list_all t (xs ++ ys) ≡ true
all-append t xs ys h k = list_all-append t xs ys ∙ (λ i. h i && k i)

-- a new row goes past rows that it does not come before
pub inserted_past : {X : Type 0} (before : X → X → Bool) (new : X) (xs ys : List X) → list_all (λ x. not (before new x)) xs ≡ true → inserted before new (xs ++ ys) ≡ xs ++ inserted before new ys
inserted_past before new [] ys h = refl
inserted_past before new (x ∷ xs) ys h = grind (arith, inserted_past before new xs ys)

pub inserted_front : {X : Type 0} (before : X → X → Bool) (new : X) (ys : List X) → list_all (λ y. before new y) ys ≡ true → inserted before new ys ≡ new ∷ ys
inserted_front before new [] h = refl
inserted_front before new (y ∷ ys) h = grind arith

pub append_nil : {X : Type 0} (xs : List X) → xs ++ [] ≡ xs
append_nil [] = refl
append_nil (x ∷ xs) = ap (λ ys. x ∷ ys) (append_nil xs)

-- ---- all parts: p picks the one entry in whose part the rows that pass q are
module _ {E X : Type 0} (f : E → List X) (p : E → Bool) where
  -- in no other entry's part a row passes
  abbrev pub no_strangers : (X → Bool) → List E → Bool
  no_strangers q es = list_all (λ e. p e || not (list_any q (f e))) es

  pub none_passes : (q : X → Bool) (es : List E) → no_strangers q es ≡ true → list_any p es ≡ false → list_any q (flat_map f es) ≡ false
  none_passes q [] h none = refl
  none_passes q (e ∷ es) h none = grind (arith, list_any-append q (f e) (flat_map f es), none_passes q es)

  flat_step : (q : X → Bool) (x : E) (es : List E) (e : E) (b : Bool) → p x ≡ b → no_strangers q (x ∷ es) ≡ true → has_one p (x ∷ es) ≡ true → find p (x ∷ es) ≡ Some e → (has_one p es ≡ true → find p es ≡ Some e → find q (flat_map f es) ≡ find q (f e)) → find q (f x ++ flat_map f es) ≡ find q (f e)
  flat_step q x es e true is h one at next =
      let none : list_any p es ≡ false = grind (arith, is) in
      let rest : no_strangers q es ≡ true = grind arith in
      let same : x ≡ e = grind (arith, is) in
      find-append_left q (f x) (flat_map f es) (none_passes q es rest none) ∙ ap (λ y. find q (f y)) same
  flat_step q x es e false is h one at next =
      let here : list_any q (f x) ≡ false = grind (arith, is) in
      let later : has_one p es ≡ true = grind (arith, is) in
      let found : find p es ≡ Some e = grind (arith, is) in
      find-append_none q (f x) (flat_map f es) here ∙ next later found

  tail_strangers : (q : X → Bool) (x : E) (es : List E) → no_strangers q (x ∷ es) ≡ true → no_strangers q es ≡ true
  tail_strangers q x es h = grind arith

  -- a look-up in the whole is one in the entry's part
  pub find-flat : (q : X → Bool) (es : List E) (e : E) → no_strangers q es ≡ true → has_one p es ≡ true → find p es ≡ Some e → find q (flat_map f es) ≡ find q (f e)
  find-flat q [] e h one at = cc
  find-flat q (x ∷ es) e h one at = flat_step q x es e (p x) refl h one at (λ later found. find-flat q es e (tail_strangers q x es h) later found)

  none_more : (e : E) (es : List E) → has_one p (e ∷ es) ≡ true → p e ≡ true → list_any p es ≡ false
  none_more e es one is = grind arith

  one_later : (e : E) (es : List E) → has_one p (e ∷ es) ≡ true → p e ≡ false → has_one p es ≡ true
  one_later e es one is = grind arith

  find_here : (e : E) (es : List E) → p e ≡ true → find p (e ∷ es) ≡ Some e
  find_here e es is = grind arith

  find_later : (e : E) (es : List E) (d : E) → p e ≡ false → find p es ≡ Some d → find p (e ∷ es) ≡ Some d
  find_later e es d is at = grind arith

  updated_step : (q : X → Bool) (change : X → X) (put : E → E) (e : E) (es : List E) (b : Bool) → p e ≡ b → (p e ≡ true → f (put e) ≡ updated q change (f e)) → no_strangers q (e ∷ es) ≡ true → (b ≡ true → list_any p es ≡ false) → (b ≡ false → flat_map f (updated p put es) ≡ updated q change (flat_map f es)) → f (if b then put e else e) ++ flat_map f (updated p put es) ≡ updated q change (f e) ++ updated q change (flat_map f es)
  updated_step q change put e es true is same h none next =
      (λ i. same is i ++ flat_map f (updated_absent p put es (none refl) i))
      ∙ ap (λ xs. updated q change (f e) ++ xs) (sym (updated_absent q change (flat_map f es) (none_passes q es (tail_strangers q e es h) (none refl))))
  updated_step q change put e es false is same h none next =
      let here : list_any q (f e) ≡ false = grind (arith, is) in
      λ i. sym (updated_absent q change (f e) here) i ++ next refl i

  -- a change of rows in the entry's part is one in the whole
  pub updated-flat : (q : X → Bool) (change : X → X) (put : E → E) (es : List E) → ((e : E) → find p es ≡ Some e → f (put e) ≡ updated q change (f e)) → has_one p es ≡ true → no_strangers q es ≡ true → flat_map f (updated p put es) ≡ updated q change (flat_map f es)
  updated-flat q change put [] same one h = refl
  updated-flat q change put (e ∷ es) same one h =
      updated_step q change put e es (p e) refl (λ is. same e (find_here e es is)) h (none_more e es one) (λ is. updated-flat q change put es (λ d at. same d (find_later e es d is at)) (one_later e es one is) (tail_strangers q e es h))
      ∙ sym (updated-append q change (f e) (flat_map f es))

  later_all : (before : X → X → Bool) (new : X) (es : List E) → list_all (λ d. list_all (λ x. before new x) (f d)) es ≡ true → list_all (λ x. before new x) (flat_map f es) ≡ true
  later_all before new [] h = refl
  later_all before new (e ∷ es) h =
      let here : list_all (λ x. before new x) (f e) ≡ true = grind arith in
      let rest : list_all (λ d. list_all (λ x. before new x) (f d)) es ≡ true = grind arith in
      all-append (λ x. before new x) (f e) (flat_map f es) here (later_all before new es rest)

  removed_step : (q : X → Bool) (put : E → E) (e : E) (es : List E) (b : Bool) → p e ≡ b → (p e ≡ true → f (put e) ≡ filter (λ x. not (q x)) (f e)) → no_strangers q (e ∷ es) ≡ true → (b ≡ true → list_any p es ≡ false) → (b ≡ false → flat_map f (updated p put es) ≡ filter (λ x. not (q x)) (flat_map f es)) → f (if b then put e else e) ++ flat_map f (updated p put es) ≡ filter (λ x. not (q x)) (f e) ++ filter (λ x. not (q x)) (flat_map f es)
  removed_step q put e es true is same h none next =
      (λ i. same is i ++ flat_map f (updated_absent p put es (none refl) i))
      ∙ ap (λ xs. filter (λ x. not (q x)) (f e) ++ xs) (sym (kept_all q (flat_map f es) (none_passes q es (tail_strangers q e es h) (none refl))))
  removed_step q put e es false is same h none next =
      let here : list_any q (f e) ≡ false = grind (arith, is) in
      λ i. sym (kept_all q (f e) here) i ++ next refl i

  -- rows taken out of the entry's part are taken out of the whole
  pub removed-flat : (q : X → Bool) (put : E → E) (es : List E) → ((e : E) → find p es ≡ Some e → f (put e) ≡ filter (λ x. not (q x)) (f e)) → has_one p es ≡ true → no_strangers q es ≡ true → flat_map f (updated p put es) ≡ filter (λ x. not (q x)) (flat_map f es)
  removed-flat q put [] same one h = refl
  removed-flat q put (e ∷ es) same one h =
      removed_step q put e es (p e) refl (λ is. same e (find_here e es is)) h (none_more e es one) (λ is. removed-flat q put es (λ d at. same d (find_later e es d is at)) (one_later e es one is) (tail_strangers q e es h))
      ∙ sym (filter-append (λ x. not (q x)) (f e) (flat_map f es))

  pub no_rows : (q : X → Bool) (xs : List X) → list_any q xs ≡ false → filter q xs ≡ []
  no_rows q [] e = refl
  no_rows q (x ∷ xs) e = grind (arith, no_rows q xs)

  filter_step : (q : X → Bool) (x : E) (es : List E) (e : E) (b : Bool) → p x ≡ b → no_strangers q (x ∷ es) ≡ true → has_one p (x ∷ es) ≡ true → find p (x ∷ es) ≡ Some e → (has_one p es ≡ true → find p es ≡ Some e → filter q (flat_map f es) ≡ filter q (f e)) → filter q (f x) ++ filter q (flat_map f es) ≡ filter q (f e)
  filter_step q x es e true is h one at next =
      let none : list_any p es ≡ false = grind (arith, is) in
      let same : x ≡ e = grind (arith, is) in
      ap (λ xs. filter q (f x) ++ xs) (no_rows q (flat_map f es) (none_passes q es (tail_strangers q x es h) none)) ∙ append_nil (filter q (f x)) ∙ ap (λ y. filter q (f y)) same
  filter_step q x es e false is h one at next =
      let here : list_any q (f x) ≡ false = grind (arith, is) in
      let later : has_one p es ≡ true = grind (arith, is) in
      let found : find p es ≡ Some e = grind (arith, is) in
      ap (λ xs. xs ++ filter q (flat_map f es)) (no_rows q (f x) here) ∙ next later found

  -- a filter that picks rows of the entry alone
  pub filter-flat : (q : X → Bool) (es : List E) (e : E) → no_strangers q es ≡ true → has_one p es ≡ true → find p es ≡ Some e → filter q (flat_map f es) ≡ filter q (f e)
  filter-flat q [] e h one at = cc
  filter-flat q (x ∷ es) e h one at = filter-append q (f x) (flat_map f es) ∙ filter_step q x es e (p x) refl h one at (λ later found. filter-flat q es e (tail_strangers q x es h) later found)

-- ---- a row put anywhere into its entry's part

pub inserted-append_left : {X : Type 0} (before : X → X → Bool) (new : X) (xs ys : List X) → list_all (λ y. before new y) ys ≡ true → inserted before new (xs ++ ys) ≡ inserted before new xs ++ ys
inserted-append_left before new [] ys h = inserted_front before new ys h
inserted-append_left before new (x ∷ xs) ys h = by (before new x) (inserted-append_left before new xs ys h)
  where
    by : (b : Bool) → inserted before new (xs ++ ys) ≡ inserted before new xs ++ ys → (if b then new ∷ x ∷ (xs ++ ys) else x ∷ inserted before new (xs ++ ys)) ≡ (if b then new ∷ x ∷ xs else x ∷ inserted before new xs) ++ ys
    by true rest = refl
    by false rest = ap (λ zs. x ∷ zs) rest

module _ {E X : Type 0} (f : E → List X) (p : E → Bool) where
  -- the rows of earlier parts come before the new row, and those of later parts after it
  abbrev pub outer_sides : (X → X → Bool) → X → List E → Bool
  outer_sides before new [] = false
  outer_sides before new (e ∷ es) = if p e then list_all (λ d. list_all (λ x. before new x) (f d)) es else list_all (λ x. not (before new x)) (f e) && outer_sides before new es

  put_step : (before : X → X → Bool) (new : X) (put : E → E) (e : E) (es : List E) (b : Bool) → p e ≡ b → (p e ≡ true → f (put e) ≡ inserted before new (f e)) → outer_sides before new (e ∷ es) ≡ true → (b ≡ true → list_any p es ≡ false) → (b ≡ false → flat_map f (updated p put es) ≡ inserted before new (flat_map f es)) → f (if b then put e else e) ++ flat_map f (updated p put es) ≡ inserted before new (f e ++ flat_map f es)
  put_step before new put e es true is same h none next =
      let later : list_all (λ d. list_all (λ x. before new x) (f d)) es ≡ true = grind (arith, is) in
      (λ i. same is i ++ flat_map f (updated_absent p put es (none refl) i))
      ∙ sym (inserted-append_left before new (f e) (flat_map f es) (later_all f p before new es later))
  put_step before new put e es false is same h none next =
      let here : list_all (λ x. not (before new x)) (f e) ≡ true = grind (arith, is) in
      ap (λ xs. f e ++ xs) (next refl) ∙ sym (inserted_past before new (f e) (flat_map f es) here)

  outer_later : (before : X → X → Bool) (new : X) (e : E) (es : List E) → outer_sides before new (e ∷ es) ≡ true → p e ≡ false → outer_sides before new es ≡ true
  outer_later before new e es h is = grind arith

  pub inserted-flat_any : (before : X → X → Bool) (new : X) (put : E → E) (es : List E) → ((e : E) → find p es ≡ Some e → f (put e) ≡ inserted before new (f e)) → has_one p es ≡ true → outer_sides before new es ≡ true → flat_map f (updated p put es) ≡ inserted before new (flat_map f es)
  inserted-flat_any before new put [] same one h = cc
  inserted-flat_any before new put (e ∷ es) same one h =
      put_step before new put e es (p e) refl (λ is. same e (find_here f p e es is)) h (none_more f p e es one) (λ is. inserted-flat_any before new put es (λ d at. same d (find_later f p e es d is at)) (one_later f p e es one is) (outer_later before new e es h is))
