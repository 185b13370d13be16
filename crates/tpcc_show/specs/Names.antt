-- The words that ask for a table (1.3) and for a part of a book.
use Rattle.std.specs.Prelude.{ℕ, List, codes}
use Rattle.tpcc_rows.specs.declared.tables.row.Table.{Table}
use Rattle.tpcc_rows.specs.declared.tables.row.Table.TheVariants as table
use Rattle.tpcc_show.specs.declared.parts.Part.{Part}
use Rattle.tpcc_show.specs.declared.parts.Part.TheVariants as parts

abbrev pub table_name : Table → List ℕ
table_name table.Warehouse = codes "WAREHOUSE"
table_name table.District = codes "DISTRICT"
table_name table.Customer = codes "CUSTOMER"
table_name table.History = codes "HISTORY"
table_name table.Order = codes "ORDER"
table_name table.OrderLine = codes "ORDER-LINE"
table_name table.NewOrder = codes "NEW-ORDER"
table_name table.Item = codes "ITEM"
table_name table.Stock = codes "STOCK"

-- the word that asks for a part
abbrev pub part_name : Part → List ℕ
part_name parts.Screens = codes "screens"
part_name parts.Report = codes "report"
part_name parts.Journal = codes "journal"
part_name parts.Receipts = codes "receipts"
part_name parts.Results = codes "results"
part_name parts.Check = codes "check"
part_name (parts.Rows table) = table_name table
