-- Texts of columns: printable ASCII, of bounded length.
use Rattle.std.proofs.Common.{◌≡◌, ℕ, ◌-◌, ◌/◌, ◌%◌, ◌≤◌, ◌<◌, ◌^◌, true, List, ◌∷◌, length, take, arith}
use Rattle.std.specs.Prelude.{ℤ, pos, negsuc, nat_le, replicate, decimal}
use Rattle.std.proofs.lemmas.Int.{ints}
use Rattle.std.proofs.lemmas.List.{length-take}
use Rattle.std.proofs.lemmas.Bool.Decides.{nat_tests}
use Rattle.tpcc_money.specs.Texts.{amount_text, padded_number}
use Rattle.tpcc_rows.specs.Printable.{is_printable}
use Rattle.tpcc_rows.specs.Ranges.{is_text, is_amount_within}
use Rattle.tpcc_laws.proofs.Numbers.{amount_within}
use Rattle.tpcc_rows.proofs.Booleans.{split, both_true}
use Rattle.tpcc_rows.proofs.PrintableTexts.{are_printable, append_is_printable, list_all-take, decimal_printable, zeros_printable}
use Rattle.tpcc_rows.specs.declared.limits.TheConstants.{GREATEST_PAYMENT}

padded_printable : (n v : ℕ) → v < 2 ^ 64 → are_printable (padded_number n v) ≡ true
padded_printable n v h = append_is_printable (replicate (n - length (decimal v)) 48) (decimal v) (zeros_printable (n - length (decimal v))) (decimal_printable v h)

pub amount_printable : (a : ℤ) → is_amount_within (pos 100) GREATEST_PAYMENT a ≡ true → are_printable (amount_text a) ≡ true
amount_printable (pos n) h =
    let s = amount_within (pos 100) GREATEST_PAYMENT (pos n) h in
    let small : n ≤ 500000 = omega (arith, ints) in
    append_is_printable (decimal (n / 100)) (46 ∷ padded_number 2 (n % 100)) (decimal_printable (n / 100) (omega arith)) (padded_printable 2 (n % 100) (omega arith))
amount_printable (negsuc n) h = let s = amount_within (pos 100) GREATEST_PAYMENT (negsuc n) h in absurd (omega (arith, ints))

-- what the test of a text tells, and what it takes
pub text_tells : (n : ℕ) (bs : List ℕ) → is_text n bs ≡ true → (length bs ≤ n) × (are_printable bs ≡ true)
text_tells n bs h = let s = split (nat_le (length bs) n) (are_printable bs) h in (grind (arith, nat_tests), s.1)

pub is_a_text : (n : ℕ) (bs : List ℕ) → length bs ≤ n → are_printable bs ≡ true → is_text n bs ≡ true
is_a_text n bs h k = let e : nat_le (length bs) n ≡ true = grind (arith, nat_tests) in both_true (nat_le (length bs) n) (are_printable bs) e k

pub cut_text : (n : ℕ) (bs : List ℕ) → are_printable bs ≡ true → is_text n (take n bs) ≡ true
cut_text n bs h = is_a_text n (take n bs) (omega (arith, length-take n bs)) (list_all-take is_printable n bs h)
