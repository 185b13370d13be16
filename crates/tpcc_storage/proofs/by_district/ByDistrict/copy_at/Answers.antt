use Rattle.std.proofs.Common.{◌+◌, ◌-◌, ◌∙◌, ap, sym, arith, drop, slice_get}
use Rattle.std.specs.Prelude.{flat_map}
use Rattle.tpcc_storage.specs.ByDistrict.{ByDistrictView}
use Rattle.tpcc_storage.specs.Internal.DistrictWords.{rows_in}
use Rattle.tpcc_storage.proofs.Read.{row_past, row_within}
use Rattle.tpcc_storage.proofs.by_district.ByDistrict.copy_at.Goals as goal

pub returns-then-before-len : goal.returns-then-before-len
returns-then-before-len g c =
    c.get.ensures
    ∙ row_within c.deref-part-items.result.now c.loop-part.part-index c.part-item.result (omega arith) c.part-item.is c.loop-part.before (omega arith)
    ∙ c.loop-part.invariant.row

pub loop-part-preserved : goal.loop-part-preserved
loop-part-preserved g c = record {
  row = ap (λ n. slice_get (flat_map rows_in (drop (c.loop-part.part-index + 1) c.deref-part-items.result.now)) (c.loop-part.before - n)) c.len-before.ensures
      ∙ sym (row_past c.deref-part-items.result.now c.loop-part.part-index c.part-item.result (omega arith) c.part-item.is c.loop-part.before (omega arith))
      ∙ c.loop-part.invariant.row;
}

pub loop-part-init : goal.loop-part-init
loop-part-init g c = record {
  row = ap (λ parts. slice_get (flat_map rows_in parts) c.args.position) c.deref-part-items.ensures.value
      ∙ ap (λ (t : ByDistrictView g.row.T.Denot). slice_get t.rows c.args.position) c.self.view_is;
}
