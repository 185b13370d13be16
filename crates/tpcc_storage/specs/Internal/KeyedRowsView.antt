-- How rows in a map by their keys are seen, and what always holds of them.
use Rattle.std.specs.Prelude.{ℕ, List}
use Rattle.indexmap.specs.IndexMap.{values, spare}
use Rattle.tpcc_storage.specs.declared.keyed_rows.KeyedRows.TheInside.{Inside}
use Rattle.tpcc_storage.specs.KeyedRows.{RowsView}
use Rattle.tpcc_storage.specs.Internal.KeyedRows.{AreUnderKeys}

abbrev pub view_of_rows : {T K : Type 0} → Inside T K → RowsView T
view_of_rows t = record { items = values t.rows; spare = spare t.rows }

abbrev pub AreKept : {T K : Type 0} → (T → List ℕ) → (K → List ℕ) → Inside T K → Type 0
AreKept key numbers t = AreUnderKeys key numbers t.rows.entries
