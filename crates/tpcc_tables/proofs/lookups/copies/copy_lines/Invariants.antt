use Rattle.std.proofs.Common.{◌≡◌, take, length}
use Rattle.tpcc_tables.proofs.lookups.copies.copy_lines.Given as goal

abbrev pub invariant-loop-line : goal.invariant-loop-line
invariant-loop-line l = record {
  rows : l.rows ≡ take l.line-index l.lines;
  count : length l.rows ≡ l.line-index;
}
