use Rattle.std.proofs.Common.{◌≡◌, ◌+◌, ◌-◌, ℕ, List, Some}
use Rattle.std.specs.Io.Buffered.{reader_remaining}
use Rattle.tpcc_text.specs.declared.script.limits.TheConstants.{MOST_LINES}
use Rattle.tpcc_script.specs.Session.{book_of}
use Rattle.tpcc_script.proofs.Runs.{SoFar}
use Rattle.tpcc_script.proofs.script.serve_lines.Given as goal

abbrev pub invariant-lines : goal.invariant-lines
invariant-lines g l = (bytes : List ℕ) → reader_remaining g.R.Read.remaining l.fn.ahead ≡ Some bytes
    → SoFar (book_of l.fn.session) (book_of l.session) bytes (reader_remaining g.R.Read.remaining l.ahead)
    (g.W.Write.contents l.fn.out) (g.W.Write.contents l.out) l.waiting l.number

abbrev pub decreases-lines : goal.decreases-lines
decreases-lines g l = MOST_LINES + 1 - l.number
