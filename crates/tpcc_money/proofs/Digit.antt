-- What formats with leading zeros write.
use Rattle.std.proofs.Common.{◌≡◌, refl, ℕ, suc, ◌+◌, ◌-◌, ◌/◌, ◌%◌, ◌^◌, false, [], ◌∷◌, ◌++◌, length, append-nil, arith}
use Rattle.std.specs.Prelude.{ℤ, pos, negsuc, ◌<ℤ◌, ◌≤ℤ◌, unsigned_abs, decimal}
use Rattle.std.specs.Fmt.{padded_integral, char_count, format_spec}
use Rattle.std.proofs.lemmas.Int.{ints}
use Rattle.tpcc_money.specs.Texts.{padded_number, amount_text}

-- what `{:02}` and the like write of a number
pub padded_integral-zeros : (places n : ℕ) → padded_integral (format_spec 32 0 4 places (2 ^ 64 - 1)) false [] (decimal n) ≡ padded_number places n
unfolding padded_integral char_count
padded_integral-zeros places n =
    let none : places - length (decimal n) - 0 - 0 ≡ places - length (decimal n) = omega arith in
    rw (none, append-nil (decimal n)) refl

-- the text of an amount from its sign and size
pub below_zero : (a : ℤ) → a <ℤ pos 0 → 45 ∷ (decimal (unsigned_abs a / 100) ++ 46 ∷ padded_number 2 (unsigned_abs a % 100)) ≡ amount_text a
below_zero (pos n) h = absurd (omega (arith, ints))
below_zero (negsuc n) h = let next : suc n ≡ n + 1 = omega arith in rw next refl

pub from_zero : (a : ℤ) → pos 0 ≤ℤ a → decimal (unsigned_abs a / 100) ++ 46 ∷ padded_number 2 (unsigned_abs a % 100) ≡ amount_text a
from_zero (pos n) h = refl
from_zero (negsuc n) h = absurd (omega (arith, ints))
