use Rattle.std.proofs.Common.{◌≡◌, ◌*◌, pos, ◌≤ℤ◌, take}
use Rattle.tpcc_money.specs.Amounts.{total}
use Rattle.tpcc_tables.proofs.SumLines.{amount_of}
use Rattle.tpcc_tables.proofs.changes.delivery.amount_where.Given as goal

abbrev pub invariant-loop-line : goal.invariant-loop-line
invariant-loop-line l = record {
  summed : l.sum ≡ total (amount_of l.delivered) (take l.line-index l.lines);
  low : pos 0 ≤ℤ l.sum;
  high : l.sum ≤ℤ pos (l.line-index * 999999);
}
