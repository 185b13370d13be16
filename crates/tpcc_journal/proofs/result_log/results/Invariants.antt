use Rattle.std.proofs.Common.{◌≡◌}
use Rattle.tpcc_journal.proofs.Log.{lines_of}
use Rattle.tpcc_journal.proofs.result_log.results.Given as goal

abbrev pub invariant-loop-ten : goal.invariant-loop-ten
invariant-loop-ten l = l.lines.items ≡ lines_of l.runs 0 l.ten
