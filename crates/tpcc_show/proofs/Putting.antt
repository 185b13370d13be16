-- Texts that were put into blocks one after another.
use Rattle.std.proofs.Common.{◌≡◌, ◌∙◌, sym, ap, subst, codes, ℕ, ◌+◌, suc, List, [], ◌∷◌, ◌++◌, append_assoc, append-nil, take, drop, arith}
use Rattle.std.specs.Prelude.{Option, Some, Result, OnOk, OnErr, flat_map, slice_get}
use Rattle.std.proofs.Math.Seq.{take-suc}
use Rattle.std.proofs.lemmas.List.{take-append-drop}
use Rattle.std.proofs.lemmas.List.Concat.{flat_map-append}
use Rattle.std.proofs.lemmas.Option.{slice_get_within, get_or_from_slice_get}
use Rattle.tpcc_text.specs.Prefix.{AppendsPrefix, PassesBytes}
use Rattle.tpcc_text.proofs.BlockSteps.{in_turn, cut_first, cut_later, both, both_cut}

one_more : {X : Type 0} (xs : List X) (k : ℕ) (x : X) → slice_get xs k ≡ Some x → take (k + 1) xs ≡ take k xs ++ x ∷ []
one_more xs k x e =
    let n : k + 1 ≡ suc k = omega arith in
    let z = get_or_from_slice_get xs k x x e in
    let more = rw z at (take-suc xs k x (slice_get_within xs k x e)) in
    rw n more

next_text : {X : Type 0} (f : X → List ℕ) (xs : List X) (k : ℕ) (x : X) → slice_get xs k ≡ Some x
    → flat_map f (take k xs) ++ f x ≡ flat_map f (take (k + 1) xs)
next_text f xs k x e =
    ap (λ z. flat_map f (take k xs) ++ z) (sym (append-nil (f x)))
    ∙ sym (flat_map-append f (take k xs) (x ∷ []))
    ∙ ap (flat_map f) (sym (one_more xs k x e))

-- the next of several texts
pub put_next : {X : Type 0} (f : X → List ℕ) (xs : List X) (k : ℕ) (x : X) (a b c : Option (List ℕ)) (waited waits left : List ℕ)
    → slice_get xs k ≡ Some x → PassesBytes a b (waited ++ flat_map f (take k xs)) waits → PassesBytes b c (waits ++ f x) left
    → PassesBytes a c (waited ++ flat_map f (take (k + 1) xs)) left
put_next f xs k x a b c waited waits left at before more =
    subst (λ z. PassesBytes a c (waited ++ z) left) (next_text f xs k x at)
    (in_turn a b c waited (flat_map f (take k xs)) (f x) waits left before more)

-- or cut off in it
pub cut_next : {X : Type 0} (f : X → List ℕ) (xs : List X) (k : ℕ) (x : X) (a b c : Option (List ℕ)) (waited waits : List ℕ)
    → slice_get xs k ≡ Some x → PassesBytes a b (waited ++ flat_map f (take k xs)) waits → AppendsPrefix b c (waits ++ f x)
    → AppendsPrefix a c (waited ++ flat_map f xs)
cut_next f xs k x a b c waited waits at before part =
    let first = subst (λ z. AppendsPrefix a c (waited ++ z)) (next_text f xs k x at)
    (cut_later a b c waited (flat_map f (take k xs)) (f x) waits before part) in
    let rest = drop (k + 1) xs in
    let all = sym (flat_map-append f (take (k + 1) xs) rest) ∙ ap (flat_map f) (take-append-drop (k + 1) xs) in
    subst (λ z. AppendsPrefix a c (waited ++ z)) all
    (cut_first a c waited (flat_map f (take (k + 1) xs)) (flat_map f rest) first)

under : (name text : List ℕ) → (codes "== " ++ (name ++ (10 ∷ []))) ++ text ≡ codes "== " ++ (name ++ (10 ∷ text))
under name text =
    append_assoc (codes "== ") (name ++ (10 ∷ [])) text ∙ ap (λ z. codes "== " ++ z) (append_assoc name (10 ∷ []) text)

-- a part behind its heading
pub part_with_heading : {E : Type 0} (a b c : Option (List ℕ)) (waited name text waits left : List ℕ) (r : Result (Unit {0}) E)
    → PassesBytes a b (waited ++ (codes "== " ++ (name ++ (10 ∷ [])))) waits → OnOk r (PassesBytes b c (waits ++ text) left)
    → OnOk r (PassesBytes a c (waited ++ (codes "== " ++ (name ++ (10 ∷ text)))) left)
part_with_heading a b c waited name text waits left r before more =
    subst (λ z. OnOk r (PassesBytes a c (waited ++ z) left)) (under name text)
    (both a b c waited (codes "== " ++ (name ++ (10 ∷ []))) text waits left r before more)

-- cut off in it
pub headed_cut : {E : Type 0} (a b c : Option (List ℕ)) (waited name text waits : List ℕ) (r : Result (Unit {0}) E)
    → PassesBytes a b (waited ++ (codes "== " ++ (name ++ (10 ∷ [])))) waits → OnErr r (AppendsPrefix b c (waits ++ text))
    → OnErr r (AppendsPrefix a c (waited ++ (codes "== " ++ (name ++ (10 ∷ text)))))
headed_cut a b c waited name text waits r before part =
    subst (λ z. OnErr r (AppendsPrefix a c (waited ++ z))) (under name text)
    (both_cut a b c waited (codes "== " ++ (name ++ (10 ∷ []))) text waits r before part)

-- or in its heading
pub heading_cut : (a b : Option (List ℕ)) (waited name text : List ℕ)
    → AppendsPrefix a b (waited ++ (codes "== " ++ (name ++ (10 ∷ []))))
    → AppendsPrefix a b (waited ++ (codes "== " ++ (name ++ (10 ∷ text))))
heading_cut a b waited name text part =
    subst (λ z. AppendsPrefix a b (waited ++ z)) (under name text)
    (cut_first a b waited (codes "== " ++ (name ++ (10 ∷ []))) text part)
