-- STOCK rows while the lines of one order are taken from them.
use Rattle.std.specs.Prelude.{ℕ, ◌+◌, ◌*◌, ◌<◌, ◌≤◌, ◌^◌, ◌==◌, ◌&&◌, Bool, nat_le}
use Rattle.tpcc_rows.specs.declared.tables.rows.StockRow.{StockRow}
use Rattle.tpcc_rows.specs.declared.transactions.requests.Line.{Line}
use Rattle.tpcc_rows.specs.Ranges.{is_within, greatest_count, greatest_stock_ytd}

-- the STOCK row of a line
abbrev pub is_supplied_by : Line → StockRow → Bool
is_supplied_by l s = (l.supply == s.warehouse) && (l.item == s.item)

-- a line of that quantity can be counted
pub record HasRoomFor (quantity : ℕ) (s : StockRow) : Type 0 where
  pub stock : s.quantity ≤ 100
  pub ytd : s.ytd + quantity < 2 ^ 32
  pub orders : s.order_count + 1 < 2 ^ 32
  pub remotes : s.remote_count + 1 < 2 ^ 32

-- a line of that quantity, which is small, can be taken
pub record IsSuppliable (quantity : ℕ) (s : StockRow) : Type 0 where
  pub small : quantity ≤ 10
  pub room : HasRoomFor quantity s

-- in range after so many lines, however many of them were its own
abbrev pub is_near : ℕ → StockRow → Bool
is_near taken s =
    is_within 10 100 s.quantity && nat_le s.ytd (greatest_stock_ytd + 10 * taken) && nat_le s.order_count (greatest_count + taken)
    && nat_le s.remote_count (greatest_count + taken)
