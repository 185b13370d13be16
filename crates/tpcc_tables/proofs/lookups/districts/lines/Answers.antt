use Rattle.std.proofs.Common.{◌∙◌}
use Rattle.tpcc_rows.specs.Tables.{order_line_key}
use Rattle.tpcc_storage.specs.ByDistrict.{is_of}
use Rattle.tpcc_storage.proofs.Change.{same_filter}
use Rattle.tpcc_tables.proofs.Rising.{lies_in, line_is_of}
use Rattle.tpcc_tables.proofs.lookups.districts.lines.Goals as goal

pub returns : goal.returns
returns c = c.part.ensures ∙ same_filter (λ l. is_of (record { warehouse = c.args.warehouse; district = c.args.district }) (order_line_key l)) (lies_in c.args.warehouse c.args.district) (line_is_of c.args.warehouse c.args.district) c.args.rows.now.rows
