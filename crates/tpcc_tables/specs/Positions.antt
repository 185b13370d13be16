-- The rows of a table by their places, from 0.
use Rattle.std.specs.Prelude.{ℕ, length, Option, option_map, slice_get}
use Rattle.tpcc_rows.specs.declared.tables.row.Row.{Row}
use Rattle.tpcc_rows.specs.declared.tables.row.Row.TheVariants as row
use Rattle.tpcc_rows.specs.declared.tables.row.RowRef.{RowRef}
use Rattle.tpcc_rows.specs.declared.tables.row.RowRef.TheVariants as lent
use Rattle.tpcc_rows.specs.declared.tables.row.Table.{Table}
use Rattle.tpcc_rows.specs.declared.tables.row.Table.TheVariants as table
use Rattle.tpcc_rows.specs.Tables.{Rows}

-- how many rows a table has
unfoldable pub count_of : Rows → Table → ℕ
count_of rows table.Warehouse = length rows.warehouses
count_of rows table.District = length rows.districts
count_of rows table.Customer = length rows.customers
count_of rows table.History = length rows.histories
count_of rows table.Order = length rows.orders
count_of rows table.OrderLine = length rows.order_lines
count_of rows table.NewOrder = length rows.new_orders
count_of rows table.Item = length rows.items
count_of rows table.Stock = length rows.stocks

-- the row at a place, if the table is that long
unfoldable pub row_at : Rows → Table → ℕ → Option Row
row_at rows table.Warehouse position = option_map row.Warehouse (slice_get rows.warehouses position)
row_at rows table.District position = option_map row.District (slice_get rows.districts position)
row_at rows table.Customer position = option_map row.Customer (slice_get rows.customers position)
row_at rows table.History position = option_map row.History (slice_get rows.histories position)
row_at rows table.Order position = option_map row.Order (slice_get rows.orders position)
row_at rows table.OrderLine position = option_map row.OrderLine (slice_get rows.order_lines position)
row_at rows table.NewOrder position = option_map row.NewOrder (slice_get rows.new_orders position)
row_at rows table.Item position = option_map row.Item (slice_get rows.items position)
row_at rows table.Stock position = option_map row.Stock (slice_get rows.stocks position)

-- the row that a reference lends
abbrev pub lent_row : RowRef → Row
lent_row (lent.Warehouse r) = row.Warehouse r.now
lent_row (lent.District r) = row.District r.now
lent_row (lent.Customer r) = row.Customer r.now
lent_row (lent.History r) = row.History r.now
lent_row (lent.Order r) = row.Order r.now
lent_row (lent.OrderLine r) = row.OrderLine r.now
lent_row (lent.NewOrder r) = row.NewOrder r
lent_row (lent.Item r) = row.Item r.now
lent_row (lent.Stock r) = row.Stock r.now
