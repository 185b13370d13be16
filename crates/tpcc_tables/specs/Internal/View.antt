-- How the nine tables are seen, and what always holds of them.
use Rattle.std.specs.Prelude.{◌≡◌, ◌+◌, ◌≤◌, vec_capacity, vec_len}
use Rattle.tpcc_rows.specs.Tables.{Rows}
use Rattle.tpcc_rows.specs.WellKeyed.{IsWellKeyed}
use Rattle.tpcc_storage.specs.Names.{names_of}
use Rattle.tpcc_tables.specs.declared.tables.Tables.TheInside.{Inside}
use Rattle.tpcc_tables.specs.TablesView.{TablesView}
use Rattle.tpcc_tables.specs.Internal.Ready.{IsReady}
use Rattle.tpcc_tables.specs.Internal.Sums.{AreSums}

abbrev pub rows_of : Inside → Rows
rows_of t =
    record {
      warehouses = t.warehouses.items;
      districts = t.districts.items;
      customers = t.customers.items;
      histories = t.histories.items;
      orders = t.orders.rows;
      order_lines = t.order_lines.rows;
      new_orders = t.new_orders.rows;
      items = t.items.items;
      stocks = t.stocks.items;
    }

abbrev pub tables_view : Inside → TablesView
tables_view t = record { rows = rows_of t; order_room = t.order_room; payment_room = t.payment_room }

-- the rows are well-keyed, the sums are theirs, and each room that was promised is there
pub record AreTables (t : Inside) : Type 0 where
  pub well_keyed : IsWellKeyed (rows_of t)
  pub names : t.names ≡ names_of t.customers.items
  pub sums : AreSums (rows_of t) t.sums
  pub ready : IsReady t.are_open t.order_room t.districts.items t.orders t.order_lines t.new_orders
  pub payments : vec_len t.histories + t.payment_room ≤ vec_capacity t.histories
