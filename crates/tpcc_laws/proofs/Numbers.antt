-- What the tests of ranges tell of numbers.
use Rattle.std.proofs.Common.{◌≡◌, ℕ, ◌≤◌, ◌<◌, ◌^◌, Bool, true, false, refl, arith}
use Rattle.std.specs.Prelude.{ℤ, pos, neg_ℤ, ◌≤ℤ◌, not, int_le, FitsSigned}
use Rattle.std.specs.Int.{w64}
use Rattle.std.proofs.lemmas.Int.{ints}
use Rattle.std.proofs.lemmas.Bool.Decides.{nat_tests}
use Rattle.tpcc_rows.specs.Ranges.{is_amount_within, is_within, is_total, is_balance, is_count}
use Rattle.tpcc_rows.proofs.Booleans.{split, both_true}
use Rattle.tpcc_rows.specs.declared.limits.TheConstants.{GREATEST_COUNT, GREATEST_TOTAL}

pub at_most : (x y : ℤ) → int_le x y ≡ true → x ≤ℤ y
at_most x y h = grind (arith, ints, nat_tests)

pub not_above : (x y : ℤ) → x ≤ℤ y → int_le x y ≡ true
not_above x y h = grind (arith, ints, nat_tests)

pub amount_within : (low high n : ℤ) → is_amount_within low high n ≡ true → (low ≤ℤ n) × (n ≤ℤ high)
amount_within low high n h = let s = split (int_le low n) (int_le n high) h in (at_most low n s.0, at_most n high s.1)

pub is_amount : (low high n : ℤ) → low ≤ℤ n → n ≤ℤ high → is_amount_within low high n ≡ true
is_amount low high n h k = both_true (int_le low n) (int_le n high) (not_above low n h) (not_above n high k)

pub within : (low high n : ℕ) → is_within low high n ≡ true → (low ≤ n) × (n ≤ high)
within low high n h = (grind (arith, nat_tests), grind (arith, nat_tests))

pub is_in : (low high n : ℕ) → low ≤ n → n ≤ high → is_within low high n ≡ true
is_in low high n h k = grind (arith, nat_tests)

pub total_fits : (n : ℤ) → is_total n ≡ true → FitsSigned w64 n
total_fits n h = let s = amount_within (pos 0) GREATEST_TOTAL n h in omega (arith, ints)

pub balance_fits : (n : ℤ) → is_balance n ≡ true → FitsSigned w64 n
balance_fits n h = let s = amount_within (neg_ℤ GREATEST_TOTAL) GREATEST_TOTAL n h in omega (arith, ints)

pub count_fits : (n : ℕ) → is_count n ≡ true → n < 2 ^ 32
count_fits n h = let s = within 0 GREATEST_COUNT n h in omega arith

pub not_false : (b : Bool) → not b ≡ false → b ≡ true
not_false true e = refl
not_false false e = cc
