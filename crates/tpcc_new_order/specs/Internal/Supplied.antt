-- What the lines of an order leave of a STOCK row, and what is known of its lines.
use Rattle.std.specs.Prelude.{◌≡◌, ◌≤◌, ◌+◌, ◌-◌, ◌*◌, nat_le, ◌==◌, ◌&&◌, ℕ, Bool, true, List, length, is_some, if◌then◌else◌}
use Rattle.std.specs.List.{list_all}
use Rattle.tpcc_rows.specs.declared.tables.rows.StockRow.{StockRow}
use Rattle.tpcc_rows.specs.declared.transactions.requests.Line.{Line}
use Rattle.tpcc_rows.specs.Ranges.{is_within, greatest_count, greatest_stock_ytd}
use Rattle.tpcc_rows.specs.Tables.{Rows, find_item, find_stock}
use Rattle.tpcc_rows.specs.NewOrder.{quantity_after}
use Rattle.tpcc_new_order.specs.declared.writing.supply.StockNumbers.{StockNumbers}

-- the columns of a STOCK row that an order changes
abbrev pub numbers_of : StockRow → StockNumbers
numbers_of s = record { quantity = s.quantity; ytd = s.ytd; order_count = s.order_count; remote_count = s.remote_count }

-- 2.4.2.2: the same after a line, where the row supplies it
abbrev pub numbers_after_line : ℕ → StockRow → StockNumbers → Line → StockNumbers
numbers_after_line home s n l =
    if (l.supply == s.warehouse) && (l.item == s.item) then record {
      quantity = quantity_after n.quantity l.quantity;
      ytd = n.ytd + l.quantity;
      order_count = n.order_count + 1;
      remote_count = if s.warehouse == home then n.remote_count else n.remote_count + 1;
    } else n

-- in range after so many lines, however many of them the row supplied
pub record IsNear (taken : ℕ) (n : StockNumbers) : Type 0 where
  pub quantity : n.quantity ≤ 100
  pub ytd : n.ytd ≤ greatest_stock_ytd + 10 * taken
  pub orders : n.order_count ≤ greatest_count + taken
  pub remotes : n.remote_count ≤ greatest_count + taken

-- so far below its limits that fifteen lines of at most 10 take no column past them
abbrev pub is_far : StockRow → Bool
is_far s = nat_le s.ytd (greatest_stock_ytd - 150) && nat_le s.order_count (greatest_count - 15) && nat_le s.remote_count (greatest_count - 15)

-- a line's quantity is 1 to 10, its item is used and in stock
abbrev pub is_servable_line : Rows → Line → Bool
is_servable_line rows l = is_within 1 10 l.quantity && is_some (find_item rows l.item) && is_some (find_stock rows l.supply l.item)

-- at most fifteen such lines
pub record IsServable (rows : Rows) (lines : List Line) : Type 0 where
  pub few : length lines ≤ 15
  pub each : list_all (is_servable_line rows) lines ≡ true
