-- How the first row at which a condition fails is looked for.
use Rattle.std.specs.Prelude.{ℕ, Bool, take, if◌then◌else◌, Option, Some, None, slice_get}
use Rattle.tpcc_rows.specs.declared.tables.row.Table.{Table}
use Rattle.tpcc_rows.specs.declared.tables.row.Table.TheVariants as table
use Rattle.tpcc_rows.specs.Conditions.{Broken, first_failing, at_warehouse, at_district, at_order, at_order_line, at_customer, keeps_1, keeps_2, keeps_3, keeps_4, keeps_5, keeps_6, keeps_7, keeps_8, keeps_9, keeps_10, keeps_11, keeps_12}
use Rattle.tpcc_rows.specs.Tables.{Rows}
use Rattle.tpcc_conditions.specs.declared.condition.Condition.{Condition}
use Rattle.tpcc_conditions.specs.declared.condition.Condition.TheVariants.{One, Two, Three, Four, Five, Six, Seven, Eight, Nine, Ten, Eleven, Twelve}

-- what is broken at the row at a place, if there is a row and it fails
abbrev pub failing_row : {X : Type 0} → (X → Bool) → (X → Broken) → Option X → Option Broken
failing_row keeps broken None = None
failing_row keeps broken (Some row) = if keeps row then None else Some (broken row)

unfoldable pub failing_at : Condition → Rows → ℕ → Option Broken
failing_at One rows i = failing_row (keeps_1 rows) (at_warehouse 1) (slice_get rows.warehouses i)
failing_at Two rows i = failing_row (keeps_2 rows) (at_district 2) (slice_get rows.districts i)
failing_at Three rows i = failing_row (keeps_3 rows) (at_district 3) (slice_get rows.districts i)
failing_at Four rows i = failing_row (keeps_4 rows) (at_district 4) (slice_get rows.districts i)
failing_at Five rows i = failing_row (keeps_5 rows) (at_order 5) (slice_get rows.orders i)
failing_at Six rows i = failing_row (keeps_6 rows) (at_order 6) (slice_get rows.orders i)
failing_at Seven rows i = failing_row (keeps_7 rows) (at_order_line 7) (slice_get rows.order_lines i)
failing_at Eight rows i = failing_row (keeps_8 rows) (at_warehouse 8) (slice_get rows.warehouses i)
failing_at Nine rows i = failing_row (keeps_9 rows) (at_district 9) (slice_get rows.districts i)
failing_at Ten rows i = failing_row (keeps_10 rows) (at_customer 10) (slice_get rows.customers i)
failing_at (Eleven customers) rows i = failing_row (keeps_11 customers rows) (at_district 11) (slice_get rows.districts i)
failing_at Twelve rows i = failing_row (keeps_12 rows) (at_customer 12) (slice_get rows.customers i)

-- the first failing row of the first i rows
unfoldable pub first_to : Condition → Rows → ℕ → Option Broken
first_to One rows i = first_failing (keeps_1 rows) (at_warehouse 1) (take i rows.warehouses)
first_to Two rows i = first_failing (keeps_2 rows) (at_district 2) (take i rows.districts)
first_to Three rows i = first_failing (keeps_3 rows) (at_district 3) (take i rows.districts)
first_to Four rows i = first_failing (keeps_4 rows) (at_district 4) (take i rows.districts)
first_to Five rows i = first_failing (keeps_5 rows) (at_order 5) (take i rows.orders)
first_to Six rows i = first_failing (keeps_6 rows) (at_order 6) (take i rows.orders)
first_to Seven rows i = first_failing (keeps_7 rows) (at_order_line 7) (take i rows.order_lines)
first_to Eight rows i = first_failing (keeps_8 rows) (at_warehouse 8) (take i rows.warehouses)
first_to Nine rows i = first_failing (keeps_9 rows) (at_district 9) (take i rows.districts)
first_to Ten rows i = first_failing (keeps_10 rows) (at_customer 10) (take i rows.customers)
first_to (Eleven customers) rows i = first_failing (keeps_11 customers rows) (at_district 11) (take i rows.districts)
first_to Twelve rows i = first_failing (keeps_12 rows) (at_customer 12) (take i rows.customers)

-- the table whose rows a condition tests
abbrev pub tested_table : Condition → Table
tested_table One = table.Warehouse
tested_table Two = table.District
tested_table Three = table.District
tested_table Four = table.District
tested_table Five = table.Order
tested_table Six = table.Order
tested_table Seven = table.OrderLine
tested_table Eight = table.Warehouse
tested_table Nine = table.District
tested_table Ten = table.Customer
tested_table (Eleven customers) = table.District
tested_table Twelve = table.Customer
