use Rattle.std.proofs.Common.{◌∙◌, ◌+◌, ap, arith, ◌-◌, subst, sym, take, drop, length}
use Rattle.std.specs.Prelude.{not}
use Rattle.std.proofs.lemmas.List.{length-take-le, take_rest}
use Rattle.std.proofs.lemmas.List.Sums.{prefix_len-le-length}
use Rattle.tpcc_rows.specs.Lists.{key_before}
use Rattle.tpcc_storage.specs.ByDistrict.{district_numbers}
use Rattle.tpcc_storage.specs.Internal.DistrictRows.{DistrictRows}
use Rattle.tpcc_storage.specs.Internal.DistrictWords.{HasRoom, AreRead}
use Rattle.tpcc_storage.proofs.Read.{ascending_rest, run_further, run_read}
use Rattle.tpcc_storage.proofs.by_district.reading.read_run.Goals as goal

pub run_len-count-requires : goal.run_len-count-requires
run_len-count-requires g c = record {
  keyed = ascending_rest g.T.KeyedRow.key c.args.start c.args.rows.now (take (length c.args.rows.now - c.args.start) (drop c.args.start c.args.rows.now)) (take_rest c.args.rows.now c.args.start) c.requires.keyed;
}

pub returns : goal.returns
returns g c =
    let run = c.new.result in
    let owner = ap (λ (part : DistrictRows g.row.T.Denot). part.owner) c.new.ensures in
    let holds = ap (λ (part : DistrictRows g.row.T.Denot). part.rows.items) c.new.ensures ∙ c.in_ok-run.ensures.items in
    let within : HasRoom 0 run = omega (arith, ap length holds, ap (λ (part : DistrictRows g.row.T.Denot). part.rows.capacity) c.new.ensures, c.in_ok-run.ensures.room) in
    let seen = take (length c.args.rows.now - c.args.start) (drop c.args.start c.args.rows.now) in (
      run_further g.T.KeyedRow.key c.args.rows.now c.requires.keyed c.args.start c.args.parts.now.items c.requires.read c.requires.more seen (take_rest c.args.rows.now c.args.start) c.index-rest-0.result c.index-rest-0.is c.owner-owner.result c.owner-owner.ensures c.run_len-count.result c.run_len-count.ensures run owner holds within,
      subst (AreRead g.T.KeyedRow.key c.args.rows.now (c.args.start + c.run_len-count.result)) (sym c.in_ok-push.ensures.items)
          (run_read g.T.KeyedRow.key c.args.rows.now c.requires.keyed c.args.start c.args.parts.now.items c.requires.read c.requires.more seen (take_rest c.args.rows.now c.args.start) c.index-rest-0.result c.index-rest-0.is c.owner-owner.result c.owner-owner.ensures c.run_len-count.result c.run_len-count.ensures run owner holds within),
    )

pub slice_bounds-of_rows-end : goal.slice_bounds-of_rows-end
slice_bounds-of_rows-end g c =
    let seen = take (length c.args.rows.now - c.args.start) (drop c.args.start c.args.rows.now) in
    let within = prefix_len-le-length (λ row. not (key_before (district_numbers c.owner-owner.result) (take 2 (g.T.KeyedRow.key row)))) seen in
    sym (length-take-le c.run_len-count.result seen (omega (arith, c.run_len-count.ensures, within)))
