use Rattle.std.proofs.Common.{◌∙◌, ◌-◌, ◌++◌, take, drop}
use Rattle.tpcc_laws.proofs.DeliveryKeeps.{with_delivery_date}
use Rattle.tpcc_storage.proofs.Stretch.{changed}
use Rattle.tpcc_storage.proofs.Run.{lines_changed}
use Rattle.tpcc_storage.proofs.by_district.runs.stamp.Goals as goal

pub returns : goal.returns
returns c =
    let start = c.place_of-start.result.0 in
    let count = c.place_of-start.result.1 - c.place_of-start.result.0 in
    (λ i. take start c.args.rows.now ++ (c.stamp_all.ensures i ++ drop count (drop start c.args.rows.now)))
    ∙ (λ i. changed (with_delivery_date c.args.moment) (c.place_of-start.ensures.start i) (c.place_of-start.ensures.end i - c.place_of-start.ensures.start i) c.args.rows.now)
    ∙ lines_changed c.args.warehouse c.args.district c.args.order (with_delivery_date c.args.moment) c.args.rows.now c.requires.keyed
