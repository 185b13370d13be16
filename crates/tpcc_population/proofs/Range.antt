-- Ranges of numbers and texts.
use Rattle.std.proofs.Common.{◌≡◌, ℕ, zero, suc, ◌+◌, ◌-◌, ◌*◌, ◌/◌, ◌%◌, ◌^◌, ◌<◌, ◌≤◌, Bool, true, List, [], ◌∷◌, ◌++◌, length, refl, length-append, arith}
use Rattle.std.specs.Prelude.{pos, decimal, replicate, nat_le, slice_get, unwrap_or, ◌&&◌}
use Rattle.std.specs.List.{list_all}
use Rattle.std.proofs.lemmas.Bool.Decides.{nat_tests}
use Rattle.std.proofs.lemmas.Nat.{mul-le}
use Rattle.std.proofs.lemmas.Fmt.{decimal_by_steps, length-decimal-le}
use Rattle.std.proofs.lemmas.List.{length-replicate}
use Rattle.std.proofs.lemmas.List.Folds.{list_all-append}
use Rattle.tpcc_money.specs.Texts.{padded_number}
use Rattle.tpcc_rows.specs.LastName.{syllables, syllable, last_name}
use Rattle.tpcc_rows.specs.Printable.{is_printable}
use Rattle.tpcc_rows.specs.Ranges.{is_within, is_amount_within, is_text, is_exact_text}
use Rattle.tpcc_rows.specs.declared.limits.TheConstants.{GREATEST_CUSTOMER}
use Rattle.tpcc_population.specs.declared.seeded.numbers.TheConstants.{MOST_DISTRICTS}

pub within : (low high n : ℕ) → low ≤ n → n ≤ high → is_within low high n ≡ true
within low high n a b = grind (arith, nat_tests)

-- the rows before a district
pub small_product : (a b : ℕ) → a ≤ MOST_DISTRICTS → b ≤ GREATEST_CUSTOMER → a * b ≤ MOST_DISTRICTS * GREATEST_CUSTOMER
small_product a b h k = mul-le a b MOST_DISTRICTS GREATEST_CUSTOMER h k

pub amount_within : (low high n : ℕ) → low ≤ n → n ≤ high → is_amount_within (pos low) (pos high) (pos n) ≡ true
amount_within low high n a b = grind (arith, nat_tests)

pub text_ok : (longest : ℕ) (bytes : List ℕ) → list_all is_printable bytes ≡ true → length bytes ≤ longest → is_text longest bytes ≡ true
text_ok longest bytes all short = grind (arith, nat_tests)

pub exact_ok : (size : ℕ) (bytes : List ℕ) → list_all is_printable bytes ≡ true → length bytes ≡ size → is_exact_text size bytes ≡ true
exact_ok size bytes all long = grind (arith, nat_tests)

-- ---- texts of numbers

all-replicate : (p : ℕ → Bool) (n x : ℕ) → p x ≡ true → list_all p (replicate n x) ≡ true
all-replicate p zero x h = refl
all-replicate p (suc n) x h = grind (arith, all-replicate p n x h)

one_digit : (n : ℕ) → n < 10 → list_all is_printable ((48 + n) ∷ []) ≡ true
one_digit n h = grind (arith, nat_tests)

more_digits : (n : ℕ) (ds : List ℕ) → 10 ≤ n → list_all is_printable ds ≡ true → list_all is_printable (ds ++ ((48 + n % 10) ∷ [])) ≡ true
more_digits n ds h all = grind (arith, one_digit (n % 10) (omega arith), list_all-append is_printable ds ((48 + n % 10) ∷ []))

decimal_is_printable : (n : ℕ) → n < 2 ^ 64 → list_all is_printable (decimal n) ≡ true
decimal_is_printable n h = decimal_by_steps (λ n ds. list_all is_printable ds ≡ true) one_digit more_digits n h

pub padded_is_printable : (places v : ℕ) → v < 2 ^ 64 → list_all is_printable (padded_number places v) ≡ true
padded_is_printable places v h =
    grind (arith, all-replicate is_printable (places - length (decimal v)) 48 refl, decimal_is_printable v h, list_all-append is_printable (replicate (places - length (decimal v)) 48) (decimal v))

pub length-padded : (places v : ℕ) → 0 < places → v < 10 ^ places → v < 2 ^ 64 → length (padded_number places v) ≡ places
length-padded places v some fits small =
    omega (arith, length-decimal-le places v some fits small, length-append (replicate (places - length (decimal v)) 48) (decimal v), length-replicate {A = ℕ} (places - length (decimal v)) 48)

-- ---- last names

abbrev is_syllable : List ℕ → Bool
is_syllable t = list_all is_printable t && nat_le (length t) 5

any_or : (xs : List (List ℕ)) (i : ℕ) → list_all is_syllable xs ≡ true → is_syllable (unwrap_or (slice_get xs i) []) ≡ true
any_or [] i h = refl
any_or (x ∷ xs) zero h = grind (arith)
any_or (x ∷ xs) (suc i) h = any_or xs i (grind (arith))

syllable_ok : (n : ℕ) → is_syllable (syllable n) ≡ true
syllable_ok n = any_or syllables n refl

syllable_short : (a : List ℕ) → is_syllable a ≡ true → length a ≤ 5
syllable_short a h = grind (arith, nat_tests)

three_ok : (a b c : List ℕ) → is_syllable a ≡ true → is_syllable b ≡ true → is_syllable c ≡ true → is_text 16 (a ++ b ++ c) ≡ true
three_ok a b c h k l =
    text_ok 16 (a ++ b ++ c)
    (grind (arith, list_all-append is_printable (a ++ b) c, list_all-append is_printable a b, list_all-append is_printable a (b ++ c), list_all-append is_printable b c))
    (omega (arith, syllable_short a h, syllable_short b k, syllable_short c l, length-append (a ++ b) c, length-append a b, length-append a (b ++ c), length-append b c))

pub last_name_ok : (n : ℕ) → is_text 16 (last_name n) ≡ true
last_name_ok n = three_ok (syllable (n / 100)) (syllable (n / 10 % 10)) (syllable (n % 10)) (syllable_ok (n / 100)) (syllable_ok (n / 10 % 10)) (syllable_ok (n % 10))
