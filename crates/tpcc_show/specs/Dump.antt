-- What a dump of a table writes: the names of its columns and then each row, as records of comma-separated values.
use Rattle.std.specs.Prelude.{◌≡◌, ℕ, List, ◌∷◌, map, flat_map}
use Rattle.csv.specs.Reading.{default_config, records}
use Rattle.csv.specs.Writing.{default_writer, row_text}
use Rattle.tpcc_rows.specs.declared.tables.row.Row.{Row}
use Rattle.tpcc_rows.specs.declared.tables.row.Row.TheVariants as row
use Rattle.tpcc_rows.specs.declared.tables.row.Table.{Table}
use Rattle.tpcc_rows.specs.declared.tables.row.Table.TheVariants as table
use Rattle.tpcc_rows.specs.Tables.{Rows}
use Rattle.tpcc_show.specs.Columns.{columns}
use Rattle.tpcc_show.specs.Records.{record_of}

-- 1.3: the rows of a table; of HISTORY in order of appending, of each other table in ascending order of its key
unfoldable pub rows_of : Rows → Table → List Row
rows_of rows table.Warehouse = map row.Warehouse rows.warehouses
rows_of rows table.District = map row.District rows.districts
rows_of rows table.Customer = map row.Customer rows.customers
rows_of rows table.History = map row.History rows.histories
rows_of rows table.Order = map row.Order rows.orders
rows_of rows table.OrderLine = map row.OrderLine rows.order_lines
rows_of rows table.NewOrder = map row.NewOrder rows.new_orders
rows_of rows table.Item = map row.Item rows.items
rows_of rows table.Stock = map row.Stock rows.stocks

-- records one after another, by the default writer: commas, a line feed behind each record, quotes where needed
abbrev pub records_text : List (List (List ℕ)) → List ℕ
records_text lines = flat_map (row_text default_writer) lines

abbrev pub dump_text : Rows → Table → List ℕ
dump_text rows table = records_text (columns table ∷ map record_of (rows_of rows table))

-- the default reader finds these records in a dump, and no others
abbrev pub IsReadBack : Rows → Table → Type 0
IsReadBack rows table = records default_config (dump_text rows table) ≡ columns table ∷ map record_of (rows_of rows table)
