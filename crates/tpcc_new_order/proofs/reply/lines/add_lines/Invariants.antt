use Rattle.std.proofs.Common.{◌≡◌, ◌*◌, ◌≤ℤ◌, pos, take, map, length}
use Rattle.std.specs.List.{enumerate_from}
use Rattle.tpcc_money.specs.Amounts.{total}
use Rattle.tpcc_rows.specs.NewOrder.{amount_of, entered_line, order_line_row}
use Rattle.tpcc_new_order.proofs.reply.lines.add_lines.Given as goal

abbrev pub invariant-loop-index : goal.invariant-loop-index
invariant-loop-index l = record {
  rows : l.rows ≡ map (λ line. order_line_row l.tables.rows l.order line.0 line.1) (enumerate_from 1 (take l.index l.lines));
  shown : l.shown ≡ map (λ line. entered_line l.tables.rows l.order line.0 line.1) (enumerate_from 1 (take l.index l.lines));
  sum : l.sum ≡ total (amount_of l.tables.rows) (take l.index l.lines);
  count : length l.rows ≡ l.index;
  count_shown : length l.shown ≡ l.index;
  low : pos 0 ≤ℤ l.sum;
  high : l.sum ≤ℤ pos (999999 * l.index);
}
