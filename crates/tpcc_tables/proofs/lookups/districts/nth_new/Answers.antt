use Rattle.std.proofs.Common.{◌∙◌, ap, slice_get}
use Rattle.tpcc_rows.specs.Tables.{new_order_key}
use Rattle.tpcc_storage.specs.ByDistrict.{is_of}
use Rattle.tpcc_storage.proofs.Change.{same_filter}
use Rattle.tpcc_tables.proofs.Rising.{waits_in, new_order_is_of}
use Rattle.tpcc_tables.proofs.lookups.districts.nth_new.Goals as goal

pub returns : goal.returns
returns c = c.copy_of.ensures ∙ ap (λ rows. slice_get rows c.args.place) (same_filter (λ n. is_of (record { warehouse = c.args.warehouse; district = c.args.district }) (new_order_key n)) (waits_in c.args.warehouse c.args.district) (new_order_is_of c.args.warehouse c.args.district) c.args.rows.now.rows)
