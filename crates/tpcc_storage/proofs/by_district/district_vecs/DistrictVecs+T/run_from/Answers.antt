use Rattle.std.proofs.Common.{◌+◌, ◌-◌, ◌∙◌, ap, sym, arith, drop, length}
use Rattle.std.specs.Prelude.{flat_map}
use Rattle.tpcc_storage.specs.ByDistrict.{ByDistrictView}
use Rattle.tpcc_storage.specs.Internal.DistrictWords.{rows_in}
use Rattle.tpcc_storage.proofs.Read.{rest_past}
use Rattle.tpcc_storage.proofs.by_district.district_vecs.DistrictVecs+T.run_from.Goals as goal

pub loop-part-preserved : goal.loop-part-preserved
loop-part-preserved g c =
    let size = ap length c.as_slice-rows.ensures.value in
    record {
      rest = ap (λ n. drop (c.loop-part.before - n) (flat_map rows_in (drop (c.loop-part.part-index + 1) c.deref-part-items.result.now))) size
          ∙ sym (rest_past c.deref-part-items.result.now c.loop-part.part-index c.part-item.result (omega arith) c.part-item.is c.loop-part.before (omega (arith, size)))
          ∙ c.loop-part.invariant.rest;
    }

pub loop-part-init : goal.loop-part-init
loop-part-init g c = record {
  rest = ap (λ parts. drop c.args.position (flat_map rows_in parts)) c.deref-part-items.ensures.value
      ∙ ap (λ (t : ByDistrictView g.row.T.Denot). drop c.args.position t.rows) c.self.view_is;
}
