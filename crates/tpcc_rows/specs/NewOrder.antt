-- 2.4: New-Order.
use Rattle.std.specs.Prelude.{ℕ, ◌+◌, ◌-◌, ◌==◌, Bool, not, ◌&&◌, List, [], ◌∷◌, length, map, filter, fold, take, ℤ, is_none, Option, None, unwrap_or, slice_get, if◌then◌else◌, nat_le, nat_lt, codes}
use Rattle.std.specs.List.{list_any, list_all, enumerate_from}
use Rattle.std.specs.Option.{option_or}
use Rattle.tpcc_money.specs.Amounts.{total, line_amount, order_total}
use Rattle.tpcc_rows.specs.declared.tables.rows.OrderRow.{OrderRow}
use Rattle.tpcc_rows.specs.declared.tables.rows.OrderLineRow.{OrderLineRow}
use Rattle.tpcc_rows.specs.declared.tables.rows.NewOrderRow.{NewOrderRow}
use Rattle.tpcc_rows.specs.declared.tables.rows.WarehouseRow.{WarehouseRow}
use Rattle.tpcc_rows.specs.declared.tables.rows.DistrictRow.{DistrictRow}
use Rattle.tpcc_rows.specs.declared.tables.rows.CustomerRow.{CustomerRow}
use Rattle.tpcc_rows.specs.declared.tables.rows.ItemRow.{ItemRow}
use Rattle.tpcc_rows.specs.declared.tables.rows.StockRow.{StockRow}
use Rattle.tpcc_rows.specs.declared.transactions.requests.Order.{Order}
use Rattle.tpcc_rows.specs.declared.transactions.requests.Line.{Line}
use Rattle.tpcc_rows.specs.declared.transactions.refusals.Refusal.{Refusal}
use Rattle.tpcc_rows.specs.declared.transactions.refusals.Refusal.TheVariants.{NoWarehouse, NoDistrict, NoCustomer, LineCount, Quantity, NoSupply, OrderNumbers, Count, Total}
use Rattle.tpcc_rows.specs.declared.transactions.refusals.Field.TheVariants.{StockOrders, RemoteOrders, StockYtd}
use Rattle.tpcc_rows.specs.declared.transactions.replies.Brand.{Brand}
use Rattle.tpcc_rows.specs.declared.transactions.replies.Brand.TheVariants.{Original, Generic}
use Rattle.tpcc_rows.specs.declared.transactions.replies.EnteredLine.{EnteredLine}
use Rattle.tpcc_rows.specs.declared.transactions.replies.AcceptedOrder.{AcceptedOrder}
use Rattle.tpcc_rows.specs.declared.transactions.replies.RolledBackOrder.{RolledBackOrder}
use Rattle.tpcc_rows.specs.declared.transactions.replies.Entered.{Entered}
use Rattle.tpcc_rows.specs.declared.transactions.replies.Entered.TheVariants.{Accepted, RolledBack}
use Rattle.tpcc_rows.specs.Lists.{updated, inserted, inserted_all, by_key, has_text, first_finding}
use Rattle.tpcc_rows.specs.Ranges.{is_within, is_count, greatest_order, greatest_stock_ytd}
use Rattle.tpcc_rows.specs.Tables.{Rows, order_key, order_line_key, new_order_key, is_district, find_warehouse, find_district, find_customer, find_item, warehouse_at, district_at, customer_at, item_at, stock_at}

-- 2.4.2.3: an order with an unused item number is rolled back
abbrev pub is_rolled_back : Rows → Order → Bool
is_rolled_back rows order = list_any (λ l. is_none (find_item rows l.item)) order.lines

-- 2.4.2.2: the order takes D_NEXT_O_ID as its number
abbrev pub order_number : Rows → Order → ℕ
order_number rows order = (district_at rows order.warehouse order.district).next_order

-- 2.4.2.2: if S_QUANTITY exceeds the quantity by 10 or more it falls by it, else it falls by it and 91 are added
abbrev pub quantity_after : ℕ → ℕ → ℕ
quantity_after stock quantity = if nat_le (quantity + 10) stock then stock - quantity else stock + 91 - quantity

-- 2.4.2.2: a line takes its quantity from its STOCK row; a line of another warehouse's order counts as remote
abbrev pub stock_after_line : ℕ → StockRow → Line → StockRow
stock_after_line home s l =
    record s {
      quantity = quantity_after s.quantity l.quantity;
      ytd = s.ytd + l.quantity;
      order_count = s.order_count + 1;
      remote_count = if s.warehouse == home then s.remote_count else s.remote_count + 1;
    }

-- the lines that one STOCK row supplies
abbrev pub lines_from : StockRow → List Line → List Line
lines_from s lines = filter (λ l. (l.supply == s.warehouse) && (l.item == s.item)) lines

-- a STOCK row after its own lines, one after another
abbrev pub stock_after : ℕ → List Line → StockRow → StockRow
stock_after home lines s = fold (stock_after_line home) s (lines_from s lines)

-- 2.4.2.2: S_DIST_xx of the order's district
abbrev pub district_information_of : StockRow → ℕ → List ℕ
district_information_of s district = unwrap_or (slice_get s.district_information (district - 1)) []

-- 2.4.2.2: the ORDER row of the order with that number, and the NEW-ORDER row
abbrev pub order_row_from : ℕ → Order → OrderRow
order_row_from number order =
    record {
      id = number;
      district = order.district;
      warehouse = order.warehouse;
      customer = order.customer;
      entry_date = order.moment;
      carrier = None;
      line_count = length order.lines;
      all_local = list_all (λ l. l.supply == order.warehouse) order.lines;
    }

abbrev pub order_row : Rows → Order → OrderRow
order_row rows order = order_row_from (order_number rows order) order

abbrev pub new_order_row : Rows → Order → NewOrderRow
new_order_row rows order = record { order = order_number rows order; district = order.district; warehouse = order.warehouse }

abbrev pub amount_of : Rows → Line → ℤ
amount_of rows l = line_amount (item_at rows l.item).price l.quantity

-- 2.4.2.2: one ORDER-LINE row for each line, numbered from 1
abbrev pub order_line_row : Rows → Order → ℕ → Line → OrderLineRow
order_line_row rows order number l =
    record {
      order = order_number rows order;
      district = order.district;
      warehouse = order.warehouse;
      number = number;
      item = l.item;
      supply = l.supply;
      delivered = None;
      quantity = l.quantity;
      amount = amount_of rows l;
      district_information = district_information_of (stock_at rows l.supply l.item) order.district;
    }

abbrev pub order_line_rows : Rows → Order → List OrderLineRow
order_line_rows rows order = map (λ line. order_line_row rows order line.0 line.1) (enumerate_from 1 order.lines)

abbrev pub with_next_order : DistrictRow → DistrictRow
with_next_order d = record d { next_order = d.next_order + 1 }

-- 2.4.2.2: one ORDER, one NEW-ORDER and the ORDER-LINE rows are added, D_NEXT_O_ID rises by one, each STOCK row is as after its lines
unfoldable pub after_order : Rows → Order → Rows
after_order rows order =
    record rows {
      districts = updated (is_district order.warehouse order.district) with_next_order rows.districts;
      orders = inserted (by_key order_key) (order_row rows order) rows.orders;
      order_lines = inserted_all (by_key order_line_key) (order_line_rows rows order) rows.order_lines;
      new_orders = inserted (by_key new_order_key) (new_order_row rows order) rows.new_orders;
      stocks = map (stock_after order.warehouse order.lines) rows.stocks;
    }

-- 2.4.2.2: B if I_DATA and S_DATA both contain ORIGINAL, else G
abbrev pub brand_of : ItemRow → StockRow → Brand
brand_of i s = if has_text (codes "ORIGINAL") i.information && has_text (codes "ORIGINAL") s.information then Original else Generic

-- 2.4.3.3: the line with that number as the terminal shows it, of its ITEM and STOCK row, with S_QUANTITY as it stands after that line
abbrev pub entered_line_from : Order → ℕ → Line → ItemRow → StockRow → EnteredLine
entered_line_from order number l i s =
    record {
      number = number;
      supply = l.supply;
      item = l.item;
      name = i.name;
      quantity = l.quantity;
      stock = (stock_after order.warehouse (take number order.lines) s).quantity;
      brand = brand_of i s;
      price = i.price;
      amount = line_amount i.price l.quantity;
    }

abbrev pub entered_line : Rows → Order → ℕ → Line → EnteredLine
entered_line rows order number l = entered_line_from order number l (item_at rows l.item) (stock_at rows l.supply l.item)

-- 2.4.3.3: what the terminal shows of an order that was entered, of its three rows, its total and its lines as shown
abbrev pub accepted_from : Order → WarehouseRow → DistrictRow → CustomerRow → ℤ → List EnteredLine → AcceptedOrder
accepted_from order w d c due shown =
    record {
      warehouse = order.warehouse;
      district = order.district;
      customer = order.customer;
      last = c.last;
      credit = c.credit;
      discount = c.discount;
      order = d.next_order;
      line_count = length order.lines;
      warehouse_tax = w.tax;
      district_tax = d.tax;
      entry_date = order.moment;
      total = due;
      lines = shown;
    }

unfoldable pub accepted_order : Rows → Order → AcceptedOrder
accepted_order rows order =
    let w = warehouse_at rows order.warehouse in
    let d = district_at rows order.warehouse order.district in
    let c = customer_at rows order.warehouse order.district order.customer in
    let due = order_total (total (amount_of rows) order.lines) c.discount w.tax d.tax in
    accepted_from order w d c due (map (λ line. entered_line rows order line.0 line.1) (enumerate_from 1 order.lines))

-- 2.4.3.4: and of one that was rolled back
abbrev pub rolled_back_from : Order → DistrictRow → CustomerRow → RolledBackOrder
rolled_back_from order d c =
    record { warehouse = order.warehouse; district = order.district; customer = order.customer; last = c.last; credit = c.credit; order = d.next_order }

unfoldable pub rolled_back_order : Rows → Order → RolledBackOrder
rolled_back_order rows order =
    rolled_back_from order (district_at rows order.warehouse order.district) (customer_at rows order.warehouse order.district order.customer)

abbrev pub rows_after_order : Rows → Order → Rows
rows_after_order rows order = if is_rolled_back rows order then rows else after_order rows order

abbrev pub order_reply : Rows → Order → Entered
order_reply rows order = if is_rolled_back rows order then RolledBack (rolled_back_order rows order) else Accepted (accepted_order rows order)

-- the STOCK rows of an order's lines after the order
abbrev pub stocks_after : Rows → Order → List StockRow
stocks_after rows order = map (λ l. stock_after order.warehouse order.lines (stock_at rows l.supply l.item)) order.lines

-- what no order may have
unfoldable pub order_input_tests : Rows → Order → List (Bool × Refusal)
order_input_tests rows order =
    (is_none (find_warehouse rows order.warehouse), NoWarehouse)
    ∷ (is_none (find_district rows order.warehouse order.district), NoDistrict)
    ∷ (is_none (find_customer rows order.warehouse order.district order.customer), NoCustomer)
    ∷ (not (is_within 5 15 (length order.lines)), LineCount)
    ∷ (list_any (λ l. not (is_within 1 10 l.quantity)) order.lines, Quantity)
    ∷ (list_any (λ l. is_none (find_warehouse rows l.supply)) order.lines, NoSupply)
    ∷ []

abbrev pub order_refusal_by_input : Rows → Order → Option Refusal
order_refusal_by_input rows order = first_finding (order_input_tests rows order)

-- what no order that is not rolled back may make
unfoldable pub order_range_tests : Rows → Order → List (Bool × Refusal)
order_range_tests rows order =
    let after = stocks_after rows order in
    (order_number rows order == greatest_order, OrderNumbers)
    ∷ (list_any (λ s. not (is_count s.order_count)) after, Count StockOrders)
    ∷ (list_any (λ s. not (is_count s.remote_count)) after, Count RemoteOrders)
    ∷ (list_any (λ s. nat_lt greatest_stock_ytd s.ytd) after, Total StockYtd)
    ∷ []

abbrev pub order_refusal_by_range : Rows → Order → Option Refusal
order_refusal_by_range rows order = first_finding (order_range_tests rows order)

-- 2.4.1: why an order is refused
abbrev pub order_refusal : Rows → Order → Option Refusal
order_refusal rows order =
    option_or (order_refusal_by_input rows order) (if is_rolled_back rows order then None else order_refusal_by_range rows order)
