use Rattle.std.proofs.Common.{◌≡◌, take}
use Rattle.std.specs.Prelude.{flat_map}
use Rattle.tpcc_show.specs.Internal.Fields.{field_texts}
use Rattle.tpcc_show.proofs.table_dump.fields.Fields.set.Given as goal

abbrev pub invariant-loop-field : goal.invariant-loop-field
invariant-loop-field l = l.self ≡ flat_map field_texts (take l.field-index l.fields)
