-- The rows of a district, where it has some.
use Rattle.std.specs.Prelude.{Option, Some, None, List, []}
use Rattle.tpcc_storage.specs.Internal.DistrictRows.{DistrictRows}

-- the rows of a district's part, where it has one
unfoldable pub rows_or_none : {T : Type 0} → Option (DistrictRows T) → List T
rows_or_none None = []
rows_or_none (Some part) = part.rows.items
