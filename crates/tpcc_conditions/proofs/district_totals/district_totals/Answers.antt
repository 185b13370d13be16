use Rattle.std.proofs.Common.{ap, ◌∙◌, arith}
use Rattle.std.proofs.lemmas.Int.{ints, to_z-of_z}
use Rattle.std.proofs.lemmas.List.{take_all}
use Rattle.tpcc_money.specs.Amounts.{total}
use Rattle.tpcc_tables.specs.Positions.{count_of}
use Rattle.tpcc_conditions.specs.Internal.DistrictTotals.{total_in}
use Rattle.tpcc_conditions.proofs.District.{next_total, whole_total}
use Rattle.tpcc_conditions.proofs.district_totals.district_totals.Goals as goal

pub loop-position-preserved : goal.loop-position-preserved
loop-position-preserved c = record {
  summed = grind (arith, ints, to_z-of_z, next_total c.args.warehouse c.args.tables.now.rows.districts c.loop-position.position);
  low = omega (arith, ints);
  high = omega (arith, ints);
}

pub returns : goal.returns
unfolding count_of
returns c =
    let districts = c.args.tables.now.rows.districts in
    c.loop-position.invariant.summed ∙ ap (total (total_in c.args.warehouse)) (take_all c.loop-position.position districts (omega (arith, c.count-position-end.ensures))) ∙ whole_total c.args.warehouse districts
