use Rattle.std.proofs.Common.{◌≤◌}
use Rattle.std.specs.List.{prefix_len}
use Rattle.tpcc_storage.proofs.Run.{line_not_after}
use Rattle.tpcc_storage.proofs.by_district.runs.end_of.Given as goal

abbrev pub invariant-loop-end : goal.invariant-loop-end
invariant-loop-end l = l.end ≤ prefix_len (line_not_after l.warehouse l.district l.order) l.rows
