-- The total of an order fits.
use Rattle.std.proofs.Common.{◌≡◌, refl, ℕ, ◌+◌, ◌-◌, ◌*◌, ◌/◌, ◌≤◌, arith}
use Rattle.std.specs.Prelude.{ℤ, pos, negsuc, ◌≤ℤ◌, unsigned_abs}
use Rattle.std.proofs.lemmas.Int.{ints}
use Rattle.std.proofs.lemmas.Nat.{mul-le}
use Rattle.tpcc_money.specs.Amounts.{order_total}

pub scaled_fits : (amount kept taxed : ℕ) → amount ≤ 15000000 → kept ≤ 10000 → taxed ≤ 29998 → amount * (kept * taxed) ≤ 4499700000000000
scaled_fits amount kept taxed h k l = mul-le amount (kept * taxed) 15000000 299980000 h (mul-le kept taxed 10000 29998 k l)

pub rounds : (sum : ℤ) (discount w_tax d_tax : ℕ) → pos 0 ≤ℤ sum
    → order_total sum discount w_tax d_tax ≡ pos ((unsigned_abs sum * ((10000 - discount) * (10000 + w_tax + d_tax)) + 50000000) / 100000000)
unfolding order_total
rounds (pos n) discount w_tax d_tax h = refl
rounds (negsuc n) discount w_tax d_tax h = absurd (omega (arith, ints))
