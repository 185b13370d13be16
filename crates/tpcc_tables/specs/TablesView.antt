-- What contracts see of the tables: the rows, and the room that was reserved.
use Rattle.std.specs.Prelude.{ℕ}
use Rattle.tpcc_rows.specs.Tables.{Rows}

-- there is room for an order of fewer lines than `order_room`, and for `payment_room` payments
pub record TablesView : Type 0 where
  pub rows : Rows
  pub order_room : ℕ
  pub payment_room : ℕ
