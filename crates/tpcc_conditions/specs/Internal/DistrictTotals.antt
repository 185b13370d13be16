-- 3.3.2.1: D_YTD of the districts of a warehouse.
use Rattle.std.specs.Prelude.{ℕ, ◌==◌, ℤ, pos, if◌then◌else◌, Option, Some, None}
use Rattle.tpcc_rows.specs.declared.tables.rows.DistrictRow.{DistrictRow}

-- of a row of the warehouse, 0 of another one
abbrev pub total_in : ℕ → DistrictRow → ℤ
total_in warehouse d = if d.warehouse == warehouse then d.ytd else pos 0

-- of a row that a look-up finds, 0 where it finds none
abbrev pub found_total : ℕ → Option DistrictRow → ℤ
found_total warehouse None = pos 0
found_total warehouse (Some d) = total_in warehouse d
