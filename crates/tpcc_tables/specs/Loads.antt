-- What loading one row changes, and why a row is refused (1.3, 1.5).
use Rattle.std.specs.Prelude.{◌&&◌, ◌||◌, not, Bool, is_some, [], ◌∷◌, ◌++◌, Option, find}
use Rattle.std.specs.Prelude.{ℕ, ◌==◌}
use Rattle.tpcc_rows.specs.declared.tables.rows.WarehouseRow.{WarehouseRow}
use Rattle.tpcc_rows.specs.declared.tables.rows.DistrictRow.{DistrictRow}
use Rattle.tpcc_rows.specs.declared.tables.rows.CustomerRow.{CustomerRow}
use Rattle.tpcc_rows.specs.declared.tables.rows.HistoryRow.{HistoryRow}
use Rattle.tpcc_rows.specs.declared.tables.rows.OrderRow.{OrderRow}
use Rattle.tpcc_rows.specs.declared.tables.rows.OrderLineRow.{OrderLineRow}
use Rattle.tpcc_rows.specs.declared.tables.rows.NewOrderRow.{NewOrderRow}
use Rattle.tpcc_rows.specs.declared.tables.rows.ItemRow.{ItemRow}
use Rattle.tpcc_rows.specs.declared.tables.rows.StockRow.{StockRow}
use Rattle.tpcc_rows.specs.declared.tables.row.Row.{Row}
use Rattle.tpcc_rows.specs.declared.tables.row.Row.TheVariants as row
use Rattle.tpcc_rows.specs.Lists.{inserted, by_key, first_finding}
use Rattle.tpcc_rows.specs.Ranges.{is_warehouse_row, is_district_row, is_customer_row, is_history_row, is_order_row, is_order_line_row, is_new_order_row, is_item_row, is_stock_row}
use Rattle.tpcc_rows.specs.Tables.{Rows, warehouse_key, district_key, customer_key, order_key, order_line_key, new_order_key, item_key, stock_key, find_warehouse, find_district, find_customer, find_order, find_new_order, find_item, find_stock}
use Rattle.tpcc_rows.specs.WellKeyed.{has_warehouse, has_district, has_payer, has_customer, has_order, has_order_and_stock, has_warehouse_and_item, is_numbered_below_next}
use Rattle.tpcc_tables.specs.declared.faults.LoadFault.{LoadFault}
use Rattle.tpcc_tables.specs.declared.faults.LoadFault.TheVariants.{Field, NoParent, Duplicate}

-- the ORDER-LINE row of a key
abbrev pub is_order_line : ℕ → ℕ → ℕ → ℕ → OrderLineRow → Bool
is_order_line warehouse district order number l = (l.warehouse == warehouse) && (l.district == district) && (l.order == order) && (l.number == number)

abbrev pub find_order_line : Rows → ℕ → ℕ → ℕ → ℕ → Option OrderLineRow
find_order_line rows warehouse district order number = find (is_order_line warehouse district order number) rows.order_lines

-- one more row at the place of its key; a HISTORY row at the end
abbrev pub with_warehouse : Rows → WarehouseRow → Rows
with_warehouse rows w = record rows { warehouses = inserted (by_key warehouse_key) w rows.warehouses }

abbrev pub with_district : Rows → DistrictRow → Rows
with_district rows d = record rows { districts = inserted (by_key district_key) d rows.districts }

abbrev pub with_customer : Rows → CustomerRow → Rows
with_customer rows c = record rows { customers = inserted (by_key customer_key) c rows.customers }

abbrev pub with_history : Rows → HistoryRow → Rows
with_history rows h = record rows { histories = rows.histories ++ h ∷ [] }

abbrev pub with_order : Rows → OrderRow → Rows
with_order rows o = record rows { orders = inserted (by_key order_key) o rows.orders }

abbrev pub with_order_line : Rows → OrderLineRow → Rows
with_order_line rows l = record rows { order_lines = inserted (by_key order_line_key) l rows.order_lines }

abbrev pub with_new_order : Rows → NewOrderRow → Rows
with_new_order rows n = record rows { new_orders = inserted (by_key new_order_key) n rows.new_orders }

abbrev pub with_item : Rows → ItemRow → Rows
with_item rows i = record rows { items = inserted (by_key item_key) i rows.items }

abbrev pub with_stock : Rows → StockRow → Rows
with_stock rows s = record rows { stocks = inserted (by_key stock_key) s rows.stocks }

-- why a row is refused: a column out of its range, a row that it refers to missing, its key taken; the first that applies
abbrev pub fault_of : Bool → Bool → Bool → Option LoadFault
fault_of in_range has_parents is_taken = first_finding ((not in_range, Field) ∷ (not has_parents, NoParent) ∷ (is_taken, Duplicate) ∷ [])

abbrev pub warehouse_fault : Rows → WarehouseRow → Option LoadFault
warehouse_fault rows w = first_finding ((not (is_warehouse_row w), Field) ∷ (is_some (find_warehouse rows w.id), Duplicate) ∷ [])

abbrev pub district_fault : Rows → DistrictRow → Option LoadFault
district_fault rows d = fault_of (is_district_row d) (has_warehouse rows d) (is_some (find_district rows d.warehouse d.id))

abbrev pub customer_fault : Rows → CustomerRow → Option LoadFault
customer_fault rows c = fault_of (is_customer_row c) (has_district rows c) (is_some (find_customer rows c.warehouse c.district c.id))

abbrev pub history_fault : Rows → HistoryRow → Option LoadFault
history_fault rows h = first_finding ((not (is_history_row h), Field) ∷ (not (has_payer rows h), NoParent) ∷ [])

-- an order's number is below the next one of its district, where there is that district
abbrev pub is_order_in_range : Rows → OrderRow → Bool
is_order_in_range rows o = is_order_row o && (not (is_some (find_district rows o.warehouse o.district)) || is_numbered_below_next rows o)

abbrev pub order_fault : Rows → OrderRow → Option LoadFault
order_fault rows o = fault_of (is_order_in_range rows o) (has_customer rows o) (is_some (find_order rows o.warehouse o.district o.id))

abbrev pub order_line_fault : Rows → OrderLineRow → Option LoadFault
order_line_fault rows l = fault_of (is_order_line_row l) (has_order_and_stock rows l) (is_some (find_order_line rows l.warehouse l.district l.order l.number))

abbrev pub new_order_fault : Rows → NewOrderRow → Option LoadFault
new_order_fault rows n = fault_of (is_new_order_row n) (has_order rows n) (is_some (find_new_order rows n.warehouse n.district n.order))

abbrev pub item_fault : Rows → ItemRow → Option LoadFault
item_fault rows i = first_finding ((not (is_item_row i), Field) ∷ (is_some (find_item rows i.id), Duplicate) ∷ [])

abbrev pub stock_fault : Rows → StockRow → Option LoadFault
stock_fault rows s = fault_of (is_stock_row s) (has_warehouse_and_item rows s) (is_some (find_stock rows s.warehouse s.item))

-- a row of any table
unfoldable pub with_row : Rows → Row → Rows
with_row rows (row.Warehouse w) = with_warehouse rows w
with_row rows (row.District d) = with_district rows d
with_row rows (row.Customer c) = with_customer rows c
with_row rows (row.History h) = with_history rows h
with_row rows (row.Order o) = with_order rows o
with_row rows (row.OrderLine l) = with_order_line rows l
with_row rows (row.NewOrder n) = with_new_order rows n
with_row rows (row.Item i) = with_item rows i
with_row rows (row.Stock s) = with_stock rows s

unfoldable pub load_fault : Rows → Row → Option LoadFault
load_fault rows (row.Warehouse w) = warehouse_fault rows w
load_fault rows (row.District d) = district_fault rows d
load_fault rows (row.Customer c) = customer_fault rows c
load_fault rows (row.History h) = history_fault rows h
load_fault rows (row.Order o) = order_fault rows o
load_fault rows (row.OrderLine l) = order_line_fault rows l
load_fault rows (row.NewOrder n) = new_order_fault rows n
load_fault rows (row.Item i) = item_fault rows i
load_fault rows (row.Stock s) = stock_fault rows s
