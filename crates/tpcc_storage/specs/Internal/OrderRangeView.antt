-- How a range of orders that wait is seen, and what always holds of it.
use Rattle.std.specs.Prelude.{◌-◌, ◌≤◌, List}
use Rattle.tpcc_rows.specs.declared.tables.rows.NewOrderRow.{NewOrderRow}
use Rattle.tpcc_storage.specs.declared.by_district.range.OrderRange.TheInside.{Inside}
use Rattle.tpcc_storage.specs.Internal.OrderRange.{range}

abbrev pub rows_of_range : Inside → List NewOrderRow
rows_of_range r = range r.first (r.next - r.first.order)

abbrev pub IsRange : Inside → Type 0
IsRange r = r.first.order ≤ r.next
