use Rattle.std.proofs.Common.{◌≡◌, ◌++◌, take}
use Rattle.tpcc_show.proofs.table_dump.fields.Fields.put_texts.Given as goal

abbrev pub invariant-loop-text : goal.invariant-loop-text
invariant-loop-text l = l.self ≡ l.fn.self ++ take l.text-index l.texts
