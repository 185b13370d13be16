use Rattle.std.proofs.Common.{◌≡◌, ℕ, ◌+◌, ◌-◌, ◌≤◌, ◌<◌, List, Some, length}
use Rattle.tpcc_text.specs.declared.script.limits.TheConstants.{LONGEST_LINE, MOST_LINES}
use Rattle.tpcc_script.proofs.Lines.{Reading}
use Rattle.tpcc_script.proofs.reader.read_line.Given as goal

abbrev pub invariant-bytes : goal.invariant-bytes
invariant-bytes g l = record {
  short : length l.line.items ≤ LONGEST_LINE;
  fits : 0 < length l.line.items → l.number ≤ MOST_LINES;
  reading : (bytes : List ℕ) → g.R.Read.remaining l.fn.input ≡ Some bytes → Reading bytes l.line.items (g.R.Read.remaining l.input);
}

abbrev pub decreases-bytes : goal.decreases-bytes
decreases-bytes g l = LONGEST_LINE + 1 - length l.line.items
