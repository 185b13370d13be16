use Rattle.std.proofs.Common.{◌≡◌, None}
use Rattle.tpcc_conditions.specs.Internal.First.{first_to}
use Rattle.tpcc_conditions.proofs.condition.test.Given as goal

abbrev pub invariant-loop-position : goal.invariant-loop-position
invariant-loop-position l = first_to l.condition l.tables.rows l.position ≡ None
