-- The rows of nine lists.
use Rattle.tpcc_rows.specs.Tables.{Rows}
use Rattle.tpcc_tables.specs.declared.lists.Lists.{Lists}

abbrev pub listed : Lists → Rows
listed l =
    record {
      warehouses = l.warehouses.items;
      districts = l.districts.items;
      customers = l.customers.items;
      histories = l.histories.items;
      orders = l.orders.rows;
      order_lines = l.order_lines.rows;
      new_orders = l.new_orders.rows;
      items = l.items.items;
      stocks = l.stocks.items;
    }
