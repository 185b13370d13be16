use Rattle.std.proofs.Common.{◌≡◌, ◌++◌, map, reverse}
use Rattle.tpcc_mailbox.specs.Internal.Roles.{server_role, AreServersOf}
use Rattle.tpcc_mailbox.proofs.ending.gather.gather_servings.Given as goal

abbrev pub invariant-loop-serving : goal.invariant-loop-serving
invariant-loop-serving g l =
    (l.all.table_id ≡ l.fn.all.table_id) × (l.all.id ≡ l.fn.all.id) × (l.all.me.1 ≡ l.fn.all.me.1)
    × (l.all.me.0.roles ++ reverse (map server_role l.servings.items) ≡ l.fn.all.me.0.roles ++ map server_role l.fn.servings.items)
    × AreServersOf l.fn.shared.table_id l.servings.items

abbrev pub decreases-loop-serving : goal.decreases-loop-serving
decreases-loop-serving g l = goal.left-loop-serving g l
