use Rattle.std.proofs.Common.{◌≡◌, true, take}
use Rattle.std.specs.List.{list_all}
use Rattle.tpcc_conditions.specs.Stocked.{has_items}
use Rattle.tpcc_conditions.proofs.stocked.is_stocked.Given as goal

abbrev pub invariant-loop-position : goal.invariant-loop-position
invariant-loop-position l = list_all (λ w. has_items l.tables.rows w.id) (take l.position l.tables.rows.warehouses) ≡ true
