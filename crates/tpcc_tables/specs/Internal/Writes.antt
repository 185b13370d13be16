-- What a customer's row must have room for.
use Rattle.std.specs.Prelude.{ℤ, ◌+◌, ◌+ℤ◌, ◌-ℤ◌, ◌<◌, ◌^◌, FitsSigned}
use Rattle.std.specs.Int.{w64}
use Rattle.tpcc_rows.specs.declared.tables.rows.CustomerRow.{CustomerRow}

-- a customer who can be charged an amount
pub record IsPayable (amount : ℤ) (c : CustomerRow) : Type 0 where
  pub balance : FitsSigned w64 (c.balance -ℤ amount)
  pub paid : FitsSigned w64 (c.ytd_payment +ℤ amount)
  pub count : c.payment_count + 1 < 2 ^ 32

-- a customer whose balance a delivered order can raise
pub record IsCreditable (amount : ℤ) (c : CustomerRow) : Type 0 where
  pub balance : FitsSigned w64 (c.balance +ℤ amount)
  pub count : c.delivery_count + 1 < 2 ^ 32
