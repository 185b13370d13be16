-- What contracts see of what keeps the rows of one district.
use Rattle.std.specs.Prelude.{ℕ, List}

-- the rows, and how many there can be in all with no memory
pub record KeptRows (T : Type 0) : Type 0 where
  pub items : List T
  pub capacity : ℕ
