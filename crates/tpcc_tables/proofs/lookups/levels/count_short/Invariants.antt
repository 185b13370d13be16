use Rattle.std.proofs.Common.{◌≡◌, ◌≤◌, ◌+◌, drop}
use Rattle.tpcc_tables.proofs.Low.{is_below, passing}
use Rattle.tpcc_tables.proofs.lookups.levels.count_short.Given as goal

abbrev pub invariant-loop-position : goal.invariant-loop-position
invariant-loop-position l = record {
  few : l.count ≤ l.position;
  counted : l.count + passing (is_below l.stocks.items l.warehouse l.threshold) (drop l.position l.lines) ≡ passing (is_below l.stocks.items l.warehouse l.threshold) l.lines;
}
