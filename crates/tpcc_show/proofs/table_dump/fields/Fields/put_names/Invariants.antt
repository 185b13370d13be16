use Rattle.std.proofs.Common.{◌≡◌, ◌++◌, map, take}
use Rattle.tpcc_show.proofs.table_dump.fields.Fields.put_names.Given as goal

abbrev pub invariant-loop-name : goal.invariant-loop-name
invariant-loop-name l = l.self ≡ l.fn.self ++ map (λ name. name.now) (take l.name-index l.names)
