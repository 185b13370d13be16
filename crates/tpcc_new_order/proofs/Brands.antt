-- Where ORIGINAL stands, and where it can't.
use Rattle.std.proofs.Common.{◌≡◌, ◌∙◌, ℕ, ◌<◌, Bool, true, false, List, [], ◌∷◌, drop, get_or, length, take, take_all, refl, ap, sym, arith}
use Rattle.std.specs.Prelude.{◌&&◌, ◌||◌, codes, nat_eq}
use Rattle.std.specs.List.{list_any, starts_with}
use Rattle.std.specs.Cmp.Lexicographic.{pointwise}
use Rattle.std.proofs.lemmas.Bool.Decides.{nat_tests}
use Rattle.tpcc_rows.specs.Lists.{has_text}

under : (b q : Bool) → q ≡ false → (b && q) ≡ false
under true q e = e
under false q e = refl

here : (b q : Bool) → b ≡ false → (b && q) ≡ false
here b q e = λ i. e i && q

next : (b q r : Bool) → b ≡ false → q ≡ r → (b || q) ≡ r
next b q r e f = (λ i. e i || q) ∙ f

pub at_front : (text xs : List ℕ) → starts_with nat_eq xs text ≡ true → has_text text xs ≡ true
at_front text [] e = e
at_front text (x ∷ xs) e = ap (λ b. b || has_text text xs) e

too_few : (text xs : List ℕ) → length xs < length text → pointwise nat_eq text xs ≡ false
too_few [] xs lt = absurd (omega arith)
too_few (t ∷ text) [] lt = refl
too_few (t ∷ text) (x ∷ xs) lt = under (nat_eq t x) (pointwise nat_eq text xs) (too_few text xs (omega arith))

not_at_front : (text xs : List ℕ) → length xs < length text → pointwise nat_eq text (take (length text) xs) ≡ false
not_at_front text xs lt = ap (pointwise nat_eq text) (take_all (length text) xs (omega arith)) ∙ too_few text xs lt

-- fewer bytes than the text has don't have it
pub too_short : (text xs : List ℕ) → length xs < length text → has_text text xs ≡ false
too_short text [] lt = not_at_front text [] lt
too_short text (x ∷ xs) lt = next (pointwise nat_eq text (take (length text) (x ∷ xs))) (has_text text xs) false (not_at_front text (x ∷ xs) lt) (too_short text xs (omega arith))

no_start : (a b c d e f g h : ℕ) (xs : List ℕ) → list_any (nat_eq h) (codes "ORIGINAL") ≡ false → has_text (codes "ORIGINAL") (a ∷ b ∷ c ∷ d ∷ e ∷ f ∷ g ∷ h ∷ xs) ≡ has_text (codes "ORIGINAL") xs
no_start a b c d e f g h xs none =
    let no_o : nat_eq 79 h ≡ false = grind (arith, nat_tests, none) in
    let no_r : nat_eq 82 h ≡ false = grind (arith, nat_tests, none) in
    let no_i : nat_eq 73 h ≡ false = grind (arith, nat_tests, none) in
    let no_g : nat_eq 71 h ≡ false = grind (arith, nat_tests, none) in
    let no_n : nat_eq 78 h ≡ false = grind (arith, nat_tests, none) in
    let no_a : nat_eq 65 h ≡ false = grind (arith, nat_tests, none) in
    let no_l : nat_eq 76 h ≡ false = grind (arith, nat_tests, none) in
    next _ _ _ (under (nat_eq 79 a) _ (under (nat_eq 82 b) _ (under (nat_eq 73 c) _ (under (nat_eq 71 d) _ (under (nat_eq 73 e) _ (under (nat_eq 78 f) _ (under (nat_eq 65 g) _ (here (nat_eq 76 h) _ no_l))))))))
    (next _ _ _ (under (nat_eq 79 b) _ (under (nat_eq 82 c) _ (under (nat_eq 73 d) _ (under (nat_eq 71 e) _ (under (nat_eq 73 f) _ (under (nat_eq 78 g) _ (here (nat_eq 65 h) _ no_a)))))))
    (next _ _ _ (under (nat_eq 79 c) _ (under (nat_eq 82 d) _ (under (nat_eq 73 e) _ (under (nat_eq 71 f) _ (under (nat_eq 73 g) _ (here (nat_eq 78 h) _ no_n))))))
    (next _ _ _ (under (nat_eq 79 d) _ (under (nat_eq 82 e) _ (under (nat_eq 73 f) _ (under (nat_eq 71 g) _ (here (nat_eq 73 h) _ no_i)))))
    (next _ _ _ (under (nat_eq 79 e) _ (under (nat_eq 82 f) _ (under (nat_eq 73 g) _ (here (nat_eq 71 h) _ no_g))))
    (next _ _ _ (under (nat_eq 79 f) _ (under (nat_eq 82 g) _ (here (nat_eq 73 h) _ no_i)))
    (next _ _ _ (under (nat_eq 79 g) _ (here (nat_eq 82 h) _ no_r))
    (next _ _ _ (here (nat_eq 79 h) _ no_o) refl)))))))

-- where the eighth byte is none of its letters it starts at none of the first eight places
pub later : (xs : List ℕ) (eighth : ℕ) → 7 < length xs → eighth ≡ get_or xs 7 eighth → list_any (nat_eq eighth) (codes "ORIGINAL") ≡ false → has_text (codes "ORIGINAL") xs ≡ has_text (codes "ORIGINAL") (drop 8 xs)
later [] eighth lt is none = absurd (omega arith)
later (a ∷ []) eighth lt is none = absurd (omega arith)
later (a ∷ b ∷ []) eighth lt is none = absurd (omega arith)
later (a ∷ b ∷ c ∷ []) eighth lt is none = absurd (omega arith)
later (a ∷ b ∷ c ∷ d ∷ []) eighth lt is none = absurd (omega arith)
later (a ∷ b ∷ c ∷ d ∷ e ∷ []) eighth lt is none = absurd (omega arith)
later (a ∷ b ∷ c ∷ d ∷ e ∷ f ∷ []) eighth lt is none = absurd (omega arith)
later (a ∷ b ∷ c ∷ d ∷ e ∷ f ∷ g ∷ []) eighth lt is none = absurd (omega arith)
later (a ∷ b ∷ c ∷ d ∷ e ∷ f ∷ g ∷ h ∷ xs) eighth lt is none = no_start a b c d e f g h xs (ap (λ y. list_any (nat_eq y) (codes "ORIGINAL")) (sym is) ∙ none)
