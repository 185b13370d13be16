-- What tells that an order is refused, test by test.
use Rattle.std.specs.Prelude.{◌≡◌, ◌==◌, ◌||◌, Bool, not, ℕ, List, [], ◌∷◌, length, is_none, Some, None, nat_lt}
use Rattle.std.specs.List.{list_any}
use Rattle.tpcc_rows.specs.declared.tables.rows.StockRow.{StockRow}
use Rattle.tpcc_rows.specs.declared.transactions.requests.Line.{Line}
use Rattle.tpcc_rows.specs.declared.transactions.requests.Order.{Order}
use Rattle.tpcc_rows.specs.declared.transactions.refusals.Refusal.{Refusal}
use Rattle.tpcc_rows.specs.declared.transactions.refusals.Refusal.TheVariants.{LineCount, Quantity, NoSupply, OrderNumbers, Count, Total}
use Rattle.tpcc_rows.specs.declared.transactions.refusals.Field.TheVariants.{StockOrders, RemoteOrders, StockYtd}
use Rattle.tpcc_rows.specs.Ranges.{is_within, is_count, greatest_order, greatest_stock_ytd}
use Rattle.tpcc_rows.specs.Tables.{Rows, find_warehouse, find_district, find_customer}
use Rattle.tpcc_rows.specs.NewOrder.{order_refusal_by_input}
use Rattle.tpcc_new_order.specs.declared.reading.order_rows.OrderRows.{OrderRows}
use Rattle.tpcc_new_order.specs.declared.reading.ranges.Overruns.{Overruns}
use Rattle.tpcc_new_order.specs.declared.writing.supply.StockNumbers.{StockNumbers}

-- the tests of an order's lines
unfoldable pub line_tests : Rows → List Line → List (Bool × Refusal)
line_tests rows lines =
    (not (is_within 5 15 (length lines)), LineCount)
    ∷ (list_any (λ l. not (is_within 1 10 l.quantity)) lines, Quantity)
    ∷ (list_any (λ l. is_none (find_warehouse rows l.supply)) lines, NoSupply)
    ∷ []

-- the three rows of an order that its input does not refuse
pub record IsNamed (rows : Rows) (order : Order) (named : OrderRows) : Type 0 where
  pub accepted : order_refusal_by_input rows order ≡ None
  pub warehouse : find_warehouse rows order.warehouse ≡ Some named.warehouse.now
  pub district : find_district rows order.warehouse order.district ≡ Some named.district.now
  pub customer : find_customer rows order.warehouse order.district order.customer ≡ Some named.customer.now

-- which columns leave their ranges in some of these STOCK rows
abbrev pub overruns_of : List StockRow → Overruns
overruns_of stocks =
    record {
      orders = list_any (λ s. not (is_count s.order_count)) stocks;
      remotes = list_any (λ s. not (is_count s.remote_count)) stocks;
      ytd = list_any (λ s. nat_lt greatest_stock_ytd s.ytd) stocks;
    }

-- and in one more
abbrev pub overruns_with : Overruns → StockNumbers → Overruns
overruns_with over n =
    record {
      orders = over.orders || not (is_count n.order_count);
      remotes = over.remotes || not (is_count n.remote_count);
      ytd = over.ytd || nat_lt greatest_stock_ytd n.ytd;
    }

-- the tests of ranges, of the order's number and the columns that leave their ranges
unfoldable pub range_tests : ℕ → Overruns → List (Bool × Refusal)
range_tests number over =
    (number == greatest_order, OrderNumbers) ∷ (over.orders, Count StockOrders) ∷ (over.remotes, Count RemoteOrders) ∷ (over.ytd, Total StockYtd) ∷ []
