-- What contracts see of rows in a map by their keys.
use Rattle.std.specs.Prelude.{◌≡◌, ◌++◌, ℕ, List, take}

-- the rows in the order of their keys, and how many more can be put in with no memory
pub record RowsView (T : Type 0) : Type 0 where
  pub items : List T
  pub spare : ℕ

-- some first ones of more rows have come behind the others
pub record AddsSome {T : Type 0} (before now more : List T) : Type 0 where
  pub count : ℕ
  pub added : now ≡ before ++ take count more
