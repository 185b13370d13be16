use Rattle.std.proofs.Common.{◌≤◌}
use Rattle.std.specs.List.{prefix_len}
use Rattle.tpcc_storage.proofs.Name.{name_not_after}
use Rattle.tpcc_storage.proofs.names.end_of.Given as goal

abbrev pub invariant-loop-end : goal.invariant-loop-end
invariant-loop-end l = l.end ≤ prefix_len (name_not_after l.warehouse l.district l.last) l.names
