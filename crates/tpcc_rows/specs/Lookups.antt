-- 2.6: Order-Status. 2.8: Stock-Level.
use Rattle.std.specs.Prelude.{ℕ, ◌-◌, Bool, not, ◌&&◌, List, [], ◌∷◌, length, map, filter, is_none, Option, unwrap_or, option_map, nat_le, nat_lt}
use Rattle.std.specs.List.{list_any}
use Rattle.tpcc_rows.specs.declared.tables.rows.OrderLineRow.{OrderLineRow}
use Rattle.tpcc_rows.specs.declared.tables.rows.CustomerRow.{CustomerRow}
use Rattle.tpcc_rows.specs.declared.transactions.requests.StatusQuery.{StatusQuery}
use Rattle.tpcc_rows.specs.declared.transactions.requests.StockQuery.{StockQuery}
use Rattle.tpcc_rows.specs.declared.transactions.refusals.Refusal.{Refusal}
use Rattle.tpcc_rows.specs.declared.transactions.refusals.Refusal.TheVariants.{NoWarehouse, NoDistrict, NoCustomer, Threshold}
use Rattle.tpcc_rows.specs.declared.transactions.replies.StatusLine.{StatusLine}
use Rattle.tpcc_rows.specs.declared.transactions.replies.LastOrder.{LastOrder}
use Rattle.tpcc_rows.specs.declared.transactions.replies.Status.{Status}
use Rattle.tpcc_rows.specs.declared.transactions.replies.Level.{Level}
use Rattle.tpcc_rows.specs.Lists.{largest, distinct, first_finding}
use Rattle.tpcc_rows.specs.Ranges.{is_within}
use Rattle.tpcc_rows.specs.Tables.{Rows, is_stock, find_warehouse, find_district, district_at, order_at, orders_of, order_lines_in, lines_of, no_customer}
use Rattle.tpcc_rows.specs.ChosenCustomer.{chosen_customer}

-- 2.6.2.2: the largest O_ID of the customer's orders, if there is one
abbrev pub last_order_number : Rows → ℕ → ℕ → ℕ → Option ℕ
last_order_number rows warehouse district customer = largest (map (λ o. o.id) (orders_of rows warehouse district customer))

abbrev pub status_line : OrderLineRow → StatusLine
status_line l = record { supply = l.supply; item = l.item; quantity = l.quantity; amount = l.amount; delivered = l.delivered }

-- 2.6.2.2: an order and its lines
abbrev pub shown_order : Rows → ℕ → ℕ → ℕ → LastOrder
shown_order rows warehouse district order =
    let o = order_at rows warehouse district order in
    record { order = order; entry_date = o.entry_date; carrier = o.carrier; lines = map status_line (lines_of rows warehouse district order) }

abbrev pub asking_customer : Rows → StatusQuery → CustomerRow
asking_customer rows q = unwrap_or (chosen_customer rows q.warehouse q.district q.who) no_customer

-- 2.6.3.3: what the terminal shows of the customer and of the customer's last order
unfoldable pub status_reply : Rows → StatusQuery → Status
status_reply rows q =
    let c = asking_customer rows q in
    record {
      warehouse = q.warehouse;
      district = q.district;
      customer = c.id;
      first = c.first;
      middle = c.middle;
      last = c.last;
      balance = c.balance;
      order = option_map (shown_order rows q.warehouse q.district) (last_order_number rows q.warehouse q.district c.id);
    }

unfoldable pub status_tests : Rows → StatusQuery → List (Bool × Refusal)
status_tests rows q =
    (is_none (find_warehouse rows q.warehouse), NoWarehouse)
    ∷ (is_none (find_district rows q.warehouse q.district), NoDistrict)
    ∷ (is_none (chosen_customer rows q.warehouse q.district q.who), NoCustomer)
    ∷ []

abbrev pub status_refusal : Rows → StatusQuery → Option Refusal
status_refusal rows q = first_finding (status_tests rows q)

-- 2.8.2.2: the lines of the district's last 20 orders
abbrev pub recent_lines : Rows → ℕ → ℕ → List OrderLineRow
recent_lines rows warehouse district =
    let next = (district_at rows warehouse district).next_order in
    filter (λ l. nat_le (next - 20) l.order && nat_lt l.order next) (order_lines_in rows warehouse district)

-- whether an item's stock in the warehouse is below the threshold
abbrev pub is_low : Rows → ℕ → ℕ → ℕ → Bool
is_low rows warehouse threshold item = list_any (λ s. is_stock warehouse item s && nat_lt s.quantity threshold) rows.stocks

-- 2.8.2.2: how many distinct items of these lines are below the threshold
unfoldable pub low_stock : Rows → StockQuery → ℕ
low_stock rows q = length (filter (is_low rows q.warehouse q.threshold) (distinct (map (λ l. l.item) (recent_lines rows q.warehouse q.district))))

-- 2.8.3.3
abbrev pub stock_reply : Rows → StockQuery → Level
stock_reply rows q = record { warehouse = q.warehouse; district = q.district; threshold = q.threshold; low_stock = low_stock rows q }

unfoldable pub stock_tests : Rows → StockQuery → List (Bool × Refusal)
stock_tests rows q =
    (is_none (find_warehouse rows q.warehouse), NoWarehouse)
    ∷ (is_none (find_district rows q.warehouse q.district), NoDistrict)
    ∷ (not (is_within 10 20 q.threshold), Threshold)
    ∷ []

abbrev pub stock_refusal : Rows → StockQuery → Option Refusal
stock_refusal rows q = first_finding (stock_tests rows q)
