-- Numbers and amounts are read as they are written.
use Rattle.std.proofs.Common.{◌≡◌, refl, ap, sym, ◌∙◌, ℕ, ◌+◌, ◌-◌, ◌*◌, ◌/◌, ◌%◌, ◌≤◌, ◌<◌, ◌^◌, Bool, true, false, List, [], ◌∷◌, ◌++◌, length, take, drop, Some, arith, nat_lt}
use Rattle.std.specs.Prelude.{◌==◌, ◌&&◌, ◌||◌, not, decimal, pos, Ok}
use Rattle.std.specs.List.{list_all}
use Rattle.std.proofs.Common.{length-append}
use Rattle.std.proofs.Math.Seq.{take-append_seam, drop-append_seam}
use Rattle.std.proofs.lemmas.List.Folds.{list_all-append}
use Rattle.std.proofs.lemmas.Fmt.{decimal_by_steps, decimal_digit, decimal_step}
use Rattle.std.proofs.lemmas.Bool.Decides.{nat_tests}
use Rattle.tpcc_money.specs.declared.parse.TheConstants.{GREATEST_AMOUNT}
use Rattle.tpcc_money.specs.Numerals.{is_digit, value_from, value_of, is_decimal, at_most, number_up_to, is_cents, amount_of, amount_of_parts, amount_by}
use Rattle.tpcc_money.specs.Texts.{padded_number, amount_text}
use Rattle.tpcc_money.proofs.Values.{value_from-append, within}
use Rattle.tpcc_rows.proofs.Booleans.{both_true}

-- digits that spell a number with no needless zero in front
pub record Spells (n : ℕ) (ds : List ℕ) : Type 0 where
  pub first : ℕ
  pub rest : List ℕ
  pub whole : ds ≡ first ∷ rest
  pub lead : is_digit first ≡ true
  pub digits : list_all is_digit rest ≡ true
  pub value : value_of ds ≡ n
  pub nonzero : 0 < n → not (first == 48) ≡ true
  pub needed : ((length rest == 0) || not (first == 48)) ≡ true

or_true : (a b : Bool) → b ≡ true → (a || b) ≡ true
or_true true b e = refl
or_true false b e = e

digit : (n : ℕ) → n < 10 → is_digit (48 + n) ≡ true
digit n h = grind (arith, nat_tests)

one : (n : ℕ) → n < 10 → Spells n ((48 + n) ∷ [])
one n h = record { first = 48 + n; rest = []; whole = refl; lead = digit n h; digits = refl; value = omega arith; nonzero = λ some. grind (arith, nat_tests); needed = refl }

more : (m : ℕ) (ds : List ℕ) → 10 ≤ m → Spells (m / 10) ds → Spells m (ds ++ (48 + m % 10) ∷ [])
more m ds l s =
    let last = 48 + m % 10 in
    record {
      first = s.first;
      rest = s.rest ++ last ∷ [];
      whole = ap (λ z. z ++ last ∷ []) s.whole;
      lead = s.lead;
      digits = list_all-append is_digit s.rest (last ∷ []) ∙ both_true (list_all is_digit s.rest) (is_digit last && true) s.digits (both_true (is_digit last) true (digit (m % 10) (omega arith)) refl);
      value = value_from-append 0 ds (last ∷ []) ∙ ap (λ z. 10 * z + (last - 48)) s.value ∙ omega arith;
      nonzero = λ some. s.nonzero (omega arith);
      needed = or_true (length (s.rest ++ last ∷ []) == 0) (not (s.first == 48)) (s.nonzero (omega arith));
    }

pub decimal_spells : (n : ℕ) → n < 2 ^ 64 → Spells n (decimal n)
decimal_spells n h = decimal_by_steps Spells one more n h

pub all_digits : (n : ℕ) → n < 2 ^ 64 → list_all is_digit (decimal n) ≡ true
all_digits n h = let s = decimal_spells n h in ap (list_all is_digit) s.whole ∙ both_true (is_digit s.first) (list_all is_digit s.rest) s.lead s.digits

pub is_number : (n : ℕ) → n < 2 ^ 64 → is_decimal (decimal n) ≡ true
is_number n h =
    let s = decimal_spells n h in
    ap is_decimal s.whole ∙ both_true (is_digit s.first) _ s.lead (both_true (list_all is_digit s.rest) _ s.digits s.needed)

pub number_is_read : (most n : ℕ) → n ≤ most → n < 2 ^ 64 → number_up_to most (decimal n) ≡ Some n
unfolding number_up_to
number_is_read most n l h = rw (is_number n h) (ap (at_most most) (decimal_spells n h).value ∙ sym (within most n l))

cents_value : (n : ℕ) → value_from (n / 100) ((48 + n % 100 / 10) ∷ (48 + n % 100 % 10) ∷ []) ≡ n
cents_value n = omega arith

two_digits : (k : ℕ) → k < 100 → is_cents (46 ∷ (48 + k / 10) ∷ (48 + k % 10) ∷ []) ≡ true
two_digits k h = both_true (is_digit (48 + k / 10)) _ (digit (k / 10) (omega arith)) (digit (k % 10) (omega arith))

-- the last three bytes apart
parts : (xs ys : List ℕ) → length ys ≡ 3 → amount_of (xs ++ ys) ≡ amount_of_parts xs ys
unfolding amount_of
parts xs ys three =
    let e : length (xs ++ ys) - 3 ≡ length xs = omega (arith, length-append xs ys, three) in
    ap (λ k. amount_of_parts (take k (xs ++ ys)) (drop k (xs ++ ys))) e
    ∙ ap (λ z. amount_of_parts z (drop (length xs) (xs ++ ys))) (take-append_seam xs ys)
    ∙ ap (amount_of_parts xs) (drop-append_seam xs ys)

-- a whole number and two digits behind a point
cents_read : (n : ℕ) → n ≤ 999999999999 → amount_of_parts (decimal (n / 100)) (46 ∷ (48 + n % 100 / 10) ∷ (48 + n % 100 % 10) ∷ []) ≡ Ok (pos n)
cents_read n h =
    let whole : n / 100 < 2 ^ 64 = omega arith in
    let cents = (48 + n % 100 / 10) ∷ (48 + n % 100 % 10) ∷ [] in
    rw (is_number (n / 100) whole)
    (rw (two_digits (n % 100) (omega arith))
    (ap (λ v. amount_by (at_most GREATEST_AMOUNT (value_from v cents))) (decimal_spells (n / 100) whole).value
    ∙ ap (λ v. amount_by (at_most GREATEST_AMOUNT v)) (cents_value n)
    ∙ ap amount_by (sym (within GREATEST_AMOUNT n h))))

padded_two_by : (n : ℕ) (one : Bool) → nat_lt n 10 ≡ one → n < 100 → padded_number 2 n ≡ (48 + n / 10) ∷ (48 + n % 10) ∷ []
padded_two_by n true small within =
    let h : n < 10 = grind (arith, nat_tests) in
    let none : n / 10 ≡ 0 = omega arith in
    let same : n % 10 ≡ n = omega arith in
    rw (decimal_digit n h, none, same) refl
padded_two_by n false large within =
    let h : 10 ≤ n = grind (arith, nat_tests) in
    let e : decimal n ≡ (48 + n / 10) ∷ (48 + n % 10) ∷ [] =
    decimal_step n h (omega arith) ∙ ap (λ ds. ds ++ (48 + n % 10) ∷ []) (decimal_digit (n / 10) (omega arith)) in
    rw e refl

-- two places hold both digits
pub padded_two : (n : ℕ) → n < 100 → padded_number 2 n ≡ (48 + n / 10) ∷ (48 + n % 10) ∷ []
padded_two n h = padded_two_by n (nat_lt n 10) refl h

pub amount_is_read : (n : ℕ) → n ≤ 999999999999 → amount_of (amount_text (pos n)) ≡ Ok (pos n)
amount_is_read n h =
    ap (λ z. amount_of (decimal (n / 100) ++ 46 ∷ z)) (padded_two (n % 100) (omega arith))
    ∙ parts (decimal (n / 100)) (46 ∷ (48 + n % 100 / 10) ∷ (48 + n % 100 % 10) ∷ []) refl
    ∙ cents_read n h
