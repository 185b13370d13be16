-- The ORDER-LINE row of a line as it is shown.
use Rattle.std.specs.Prelude.{ℕ, None}
use Rattle.tpcc_rows.specs.declared.tables.rows.StockRow.{StockRow}
use Rattle.tpcc_rows.specs.declared.tables.rows.OrderLineRow.{OrderLineRow}
use Rattle.tpcc_rows.specs.declared.transactions.requests.Order.{Order}
use Rattle.tpcc_rows.specs.declared.transactions.replies.EnteredLine.{EnteredLine}
use Rattle.tpcc_rows.specs.NewOrder.{district_information_of}

-- the ORDER-LINE row of a line that is so shown, in the order of that id
abbrev pub order_line_from : Order → ℕ → EnteredLine → StockRow → OrderLineRow
order_line_from order id shown s =
    record {
      order = id;
      district = order.district;
      warehouse = order.warehouse;
      number = shown.number;
      item = shown.item;
      supply = shown.supply;
      delivered = None;
      quantity = shown.quantity;
      amount = shown.amount;
      district_information = district_information_of s order.district;
    }
