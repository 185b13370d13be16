-- What a prepared order is, and the ORDER-LINE row of a line as it is shown.
use Rattle.std.specs.Prelude.{◌≡◌, ◌<◌, ℕ, length, true, false}
use Rattle.tpcc_rows.specs.declared.transactions.requests.Order.{Order}
use Rattle.tpcc_rows.specs.Tables.{Rows}
use Rattle.tpcc_rows.specs.NewOrder.{is_rolled_back}
use Rattle.tpcc_new_order.specs.declared.transaction.PreparedOrder.{PreparedOrder}
use Rattle.tpcc_new_order.specs.declared.transaction.PreparedOrder.TheVariants.{Enter, RollBack}

-- an order is entered unless an unused item rolls it back
abbrev pub IsPrepared : Rows → Order → PreparedOrder → Type 0
IsPrepared rows order Enter = is_rolled_back rows order ≡ false
IsPrepared rows order RollBack = is_rolled_back rows order ≡ true

-- there is room for the rows, if there are any
abbrev pub HasRoom : ℕ → Order → PreparedOrder → Type 0
HasRoom room order Enter = length order.lines < room
HasRoom room order RollBack = Unit {0}
