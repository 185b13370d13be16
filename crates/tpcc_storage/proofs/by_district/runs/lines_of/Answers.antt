use Rattle.std.proofs.Common.{◌∙◌, ◌-◌, take, drop}
use Rattle.tpcc_storage.proofs.Run.{lines_are}
use Rattle.tpcc_storage.proofs.by_district.runs.lines_of.Goals as goal

pub returns : goal.returns
returns c =
    (λ i. take (c.place_of-start.ensures.end i - c.place_of-start.ensures.start i) (drop (c.place_of-start.ensures.start i) c.args.rows.now))
    ∙ lines_are c.args.warehouse c.args.district c.args.order c.args.rows.now c.requires.keyed
