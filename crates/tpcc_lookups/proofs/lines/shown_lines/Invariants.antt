use Rattle.std.proofs.Common.{◌≡◌, take, map, length}
use Rattle.tpcc_rows.specs.Lookups.{status_line}
use Rattle.tpcc_lookups.proofs.lines.shown_lines.Given as goal

abbrev pub invariant-loop-row : goal.invariant-loop-row
invariant-loop-row l = record {
  lines : l.lines ≡ map status_line (take l.row-index l.rows);
  count : length l.lines ≡ l.row-index;
}
