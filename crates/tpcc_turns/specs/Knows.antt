-- What a seat at the turns knows.
use Rattle.std.specs.Prelude.{ℕ, List}
use Rattle.tpcc_rows.specs.declared.transactions.entry.Entry.{Entry}
use Rattle.tpcc_population.specs.declared.opening.Opening.{Opening}

-- where a seat stands: it has no ticket; or it drew this ticket, counted from 0 without end, and waits; or it is served at this
-- ticket, and found the book with this journal
pub data Stage : Type 0 where
  Idle : Stage
  Out : ℕ → Stage
  Holds : ℕ → List Entry → Stage

-- what a seat that was joined into another had seen: the book's opening and the journal's first entries, up to the last one that
-- it saw; and how many of the book's 10,001 parts it had
pub record Heard : Type 0 where
  pub start : Opening
  pub front : List Entry
  pub parts : ℕ

-- what a seat knows: the book's opening and the first entries; its parts; where it stands; and what the seats that were joined
-- into it had seen, one behind another
pub record Knows : Type 0 where
  pub start : Opening
  pub front : List Entry
  pub parts : ℕ
  pub stage : Stage
  pub told : List Heard

-- the same, field by field
abbrev pub knows : Opening → List Entry → ℕ → Stage → List Heard → Knows
knows start front parts stage told =
    record { start = start; front = front; parts = parts; stage = stage; told = told }
