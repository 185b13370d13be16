use Rattle.std.proofs.Common.{◌∙◌, ap, filter}
use Rattle.tpcc_rows.specs.declared.tables.keys.DistrictKey.{DistrictKey}
use Rattle.tpcc_rows.specs.Lists.{is_ascending}
use Rattle.tpcc_rows.specs.Tables.{order_line_key}
use Rattle.tpcc_storage.specs.ByDistrict.{is_of}
use Rattle.tpcc_storage.specs.Runs.{is_line_between}
use Rattle.tpcc_storage.proofs.Line.{ascending_chosen, chosen_within, between_is_of}
use Rattle.tpcc_storage.proofs.by_district.order_lines.DistrictVecs+OrderLineRow.lines_between.Goals as goal

pub lines_between-requires-clause-keyed : goal.lines_between-requires-clause-keyed
lines_between-requires-clause-keyed c =
    let owner : DistrictKey = record { warehouse = c.args.warehouse; district = c.args.district } in
    ap (is_ascending order_line_key) c.part-part.ensures ∙ ascending_chosen order_line_key (λ row. is_of owner (order_line_key row)) c.args.self.now.rows c.requires.keyed

pub returns : goal.returns
returns c =
    let owner : DistrictKey = record { warehouse = c.args.warehouse; district = c.args.district } in
    let test = is_line_between c.args.warehouse c.args.district c.args.first c.args.next in
    c.lines_between.ensures
    ∙ ap (filter test) c.part-part.ensures
    ∙ chosen_within test (λ row. is_of owner (order_line_key row)) (between_is_of owner c.args.first c.args.next) c.args.self.now.rows
