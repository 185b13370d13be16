use Rattle.std.proofs.Common.{◌≡◌, true, take}
use Rattle.std.specs.Prelude.{is_some}
use Rattle.std.specs.List.{list_all}
use Rattle.tpcc_rows.specs.Tables.{find_stock}
use Rattle.tpcc_conditions.proofs.stocked.has_each_item.Given as goal

abbrev pub invariant-loop-position : goal.invariant-loop-position
invariant-loop-position l = list_all (λ i. is_some (find_stock l.tables.rows l.warehouse i.id)) (take l.position l.tables.rows.items) ≡ true
