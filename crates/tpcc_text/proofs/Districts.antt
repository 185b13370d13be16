-- The lines of districts, one more at the end.
use Rattle.std.proofs.Common.{◌≡◌, ◌∙◌, sym, refl, ap, ℕ, suc, ◌+◌, ◌<◌, List, [], ◌∷◌, ◌++◌, length, take, slice_index_or, append_assoc, append-nil, arith, Option}
use Rattle.std.proofs.lemmas.List.{length-take, take_more}
use Rattle.tpcc_text.specs.Internal.Adding.{Adds}
use Rattle.tpcc_text.proofs.Chains.{behind}
use Rattle.tpcc_text.specs.Screens.{district_line, district_lines}

pub district_lines-push : (first : ℕ) (orders : List (Option ℕ)) (order : Option ℕ)
    → district_lines first (orders ++ order ∷ []) ≡ district_lines first orders ++ district_line (first + length orders) order
district_lines-push first [] order = let e : first + 0 ≡ first = omega arith in rw e (append-nil (district_line first order))
district_lines-push first (o ∷ orders) order =
    let e : first + suc (length orders) ≡ first + 1 + length orders = omega arith in
    rw e (ap (λ text. district_line first o ++ text) (district_lines-push (first + 1) orders order)
    ∙ sym (append_assoc (district_line first o) (district_lines (first + 1) orders) (district_line (first + 1 + length orders) order)))

pub one_more : (old mid new : List ℕ) (orders : List (Option ℕ)) (place district : ℕ) (d order : Option ℕ) → place < length orders → order ≡ slice_index_or orders place d → district ≡ 1 + place
    → Adds old mid (district_lines 1 (take place orders)) → Adds mid new (district_line district order) → Adds old new (district_lines 1 (take (place + 1) orders))
one_more old mid new orders place district d order h same number before last =
    let passed : length (take place orders) ≡ place = omega (arith, h, length-take place orders) in
    let all : district_lines 1 (take (place + 1) orders) ≡ district_lines 1 (take place orders) ++ district_line district order =
    ap (district_lines 1) (take_more orders place d h) ∙ district_lines-push 1 (take place orders) (slice_index_or orders place d) ∙ rw (passed, sym number, sym same) refl in
    rw all (behind before last)
