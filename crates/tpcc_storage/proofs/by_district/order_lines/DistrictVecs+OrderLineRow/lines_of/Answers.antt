use Rattle.std.proofs.Common.{◌∙◌, ap, filter}
use Rattle.tpcc_rows.specs.declared.tables.keys.DistrictKey.{DistrictKey}
use Rattle.tpcc_rows.specs.Lists.{is_ascending}
use Rattle.tpcc_rows.specs.Tables.{is_line_of, order_line_key}
use Rattle.tpcc_storage.specs.ByDistrict.{is_of}
use Rattle.tpcc_storage.proofs.Line.{ascending_chosen, chosen_within, line_is_of}
use Rattle.tpcc_storage.proofs.by_district.order_lines.DistrictVecs+OrderLineRow.lines_of.Goals as goal

pub lines_of-requires : goal.lines_of-requires
lines_of-requires c =
    let owner : DistrictKey = record { warehouse = c.args.warehouse; district = c.args.district } in
    record {
      keyed = ap (is_ascending order_line_key) c.part-part.ensures ∙ ascending_chosen order_line_key (λ row. is_of owner (order_line_key row)) c.args.self.now.rows c.requires.keyed;
    }

pub returns : goal.returns
returns c =
    let owner : DistrictKey = record { warehouse = c.args.warehouse; district = c.args.district } in
    c.lines_of.ensures
    ∙ ap (filter (is_line_of c.args.warehouse c.args.district c.args.order)) c.part-part.ensures
    ∙ chosen_within (is_line_of c.args.warehouse c.args.district c.args.order) (λ row. is_of owner (order_line_key row)) (line_is_of owner c.args.order) c.args.self.now.rows
