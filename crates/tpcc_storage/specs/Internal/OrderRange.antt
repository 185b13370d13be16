-- Orders that wait, numbered one after another.
use Rattle.std.specs.Prelude.{ℕ, zero, suc, ◌+◌, List, [], ◌∷◌}
use Rattle.tpcc_rows.specs.declared.tables.rows.NewOrderRow.{NewOrderRow}

-- the row so many numbers later
abbrev pub later : NewOrderRow → ℕ → NewOrderRow
later first count = record first { order = first.order + count }

-- so many rows from the first one on
unfoldable pub range : NewOrderRow → ℕ → List NewOrderRow
range first zero = []
range first (suc count) = first ∷ range (later first 1) count
