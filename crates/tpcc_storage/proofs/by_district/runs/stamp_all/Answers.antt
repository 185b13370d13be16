use Rattle.std.proofs.Common.{◌∙◌, arith}
use Rattle.tpcc_laws.proofs.DeliveryKeeps.{with_delivery_date}
use Rattle.tpcc_storage.proofs.Stretch.{mapped_more, mapped_all}
use Rattle.tpcc_storage.proofs.by_district.runs.stamp_all.Goals as goal

pub loop-line-preserved : goal.loop-line-preserved
loop-line-preserved c = mapped_more (with_delivery_date c.args.moment) c.args.lines.now c.loop-line.line-items c.loop-line.line-index c.line-item.result c.loop-line-test.true c.loop-line.invariant

pub returns : goal.returns
returns c = c.loop-line.invariant ∙ mapped_all (with_delivery_date c.args.moment) c.args.lines.now c.loop-line.line-index (omega (arith, c.loop-line-test.false))
