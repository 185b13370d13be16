-- What a journal is seen as.
use Rattle.std.specs.Prelude.{ℕ, List}
use Rattle.tpcc_rows.specs.declared.transactions.entry.Entry.{Entry}

-- the entries in their order, and for how many more there is room
pub record Log : Type 0 where
  pub entries : List Entry
  pub room : ℕ
