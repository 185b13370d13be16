-- The record of each row: the texts of its columns in the standard's order (1.3). A null is an empty text.
use Rattle.std.specs.Prelude.{ℕ, Bool, true, false, List, [], ◌∷◌, ◌++◌, Option, Some, None, decimal, codes}
use Rattle.tpcc_money.specs.Texts.{amount_text, rate_text, moment_text}
use Rattle.tpcc_rows.specs.declared.tables.row.Row.{Row}
use Rattle.tpcc_rows.specs.declared.tables.row.Row.TheVariants as row
use Rattle.tpcc_rows.specs.declared.tables.rows.Address.{Address}
use Rattle.tpcc_rows.specs.declared.tables.rows.WarehouseRow.{WarehouseRow}
use Rattle.tpcc_rows.specs.declared.tables.rows.DistrictRow.{DistrictRow}
use Rattle.tpcc_rows.specs.declared.tables.rows.CustomerRow.{CustomerRow}
use Rattle.tpcc_rows.specs.declared.tables.rows.HistoryRow.{HistoryRow}
use Rattle.tpcc_rows.specs.declared.tables.rows.OrderRow.{OrderRow}
use Rattle.tpcc_rows.specs.declared.tables.rows.OrderLineRow.{OrderLineRow}
use Rattle.tpcc_rows.specs.declared.tables.rows.NewOrderRow.{NewOrderRow}
use Rattle.tpcc_rows.specs.declared.tables.rows.ItemRow.{ItemRow}
use Rattle.tpcc_rows.specs.declared.tables.rows.StockRow.{StockRow}

-- a number or a moment that may be null
abbrev pub nullable_number : Option ℕ → List ℕ
nullable_number None = []
nullable_number (Some n) = decimal n

abbrev pub nullable_moment : Option ℕ → List ℕ
nullable_moment None = []
nullable_moment (Some at) = moment_text at

-- O_ALL_LOCAL: 1 where the home warehouse supplies every line, else 0
abbrev pub flag : Bool → List ℕ
flag true = codes "1"
flag false = codes "0"

-- the five columns of an address, and the columns behind them
abbrev pub address_fields : Address → List (List ℕ)
address_fields a = a.street_1 ∷ a.street_2 ∷ a.city ∷ a.state ∷ a.zip ∷ []

unfoldable pub warehouse_record : WarehouseRow → List (List ℕ)
warehouse_record w = decimal w.id ∷ w.name ∷ (address_fields w.address ++ (rate_text w.tax ∷ amount_text w.ytd ∷ []))

unfoldable pub district_record : DistrictRow → List (List ℕ)
district_record d = decimal d.id ∷ decimal d.warehouse ∷ d.name
    ∷ (address_fields d.address ++ (rate_text d.tax ∷ amount_text d.ytd ∷ decimal d.next_order ∷ []))

unfoldable pub customer_record : CustomerRow → List (List ℕ)
customer_record c = decimal c.id ∷ decimal c.district ∷ decimal c.warehouse
    ∷ c.first ∷ c.middle ∷ c.last
    ∷ (address_fields c.address ++ (c.phone ∷ moment_text c.since
    ∷ c.credit ∷ amount_text c.credit_limit ∷ rate_text c.discount
    ∷ amount_text c.balance ∷ amount_text c.ytd_payment
    ∷ decimal c.payment_count ∷ decimal c.delivery_count ∷ c.information ∷ []))

unfoldable pub history_record : HistoryRow → List (List ℕ)
history_record h = decimal h.customer ∷ decimal h.customer_district ∷ decimal h.customer_warehouse
    ∷ decimal h.district ∷ decimal h.warehouse
    ∷ moment_text h.date ∷ amount_text h.amount ∷ h.information ∷ []

unfoldable pub order_record : OrderRow → List (List ℕ)
order_record o = decimal o.id ∷ decimal o.district ∷ decimal o.warehouse ∷ decimal o.customer
    ∷ moment_text o.entry_date ∷ nullable_number o.carrier
    ∷ decimal o.line_count ∷ flag o.all_local ∷ []

unfoldable pub order_line_record : OrderLineRow → List (List ℕ)
order_line_record l = decimal l.order ∷ decimal l.district ∷ decimal l.warehouse ∷ decimal l.number
    ∷ decimal l.item ∷ decimal l.supply ∷ nullable_moment l.delivered
    ∷ decimal l.quantity ∷ amount_text l.amount ∷ l.district_information ∷ []

unfoldable pub new_order_record : NewOrderRow → List (List ℕ)
new_order_record n = decimal n.order ∷ decimal n.district ∷ decimal n.warehouse ∷ []

unfoldable pub item_record : ItemRow → List (List ℕ)
item_record i = decimal i.id ∷ decimal i.image ∷ i.name ∷ amount_text i.price ∷ i.information ∷ []

-- S_DIST_01 to S_DIST_10 stand behind S_QUANTITY
unfoldable pub stock_record : StockRow → List (List ℕ)
stock_record s = decimal s.item ∷ decimal s.warehouse ∷ decimal s.quantity
    ∷ (s.district_information ++ (decimal s.ytd ∷ decimal s.order_count ∷ decimal s.remote_count ∷ s.information ∷ []))

abbrev pub record_of : Row → List (List ℕ)
record_of (row.Warehouse w) = warehouse_record w
record_of (row.District d) = district_record d
record_of (row.Customer c) = customer_record c
record_of (row.History h) = history_record h
record_of (row.Order o) = order_record o
record_of (row.OrderLine l) = order_line_record l
record_of (row.NewOrder n) = new_order_record n
record_of (row.Item i) = item_record i
record_of (row.Stock s) = stock_record s
