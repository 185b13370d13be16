-- Rows that are the same in each table.
use Rattle.std.proofs.Common.{◌≡◌}
use Rattle.tpcc_rows.specs.Tables.{Rows}

pub joined : {made rows : Rows} → made.warehouses ≡ rows.warehouses → made.districts ≡ rows.districts → made.customers ≡ rows.customers → made.histories ≡ rows.histories
    → made.orders ≡ rows.orders → made.order_lines ≡ rows.order_lines → made.new_orders ≡ rows.new_orders → made.items ≡ rows.items → made.stocks ≡ rows.stocks → made ≡ rows
joined warehouses districts customers histories orders lines new items stocks =
    λ i. record {
      warehouses = warehouses i;
      districts = districts i;
      customers = customers i;
      histories = histories i;
      orders = orders i;
      order_lines = lines i;
      new_orders = new i;
      items = items i;
      stocks = stocks i;
    }
