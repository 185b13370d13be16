use Rattle.std.proofs.Common.{◌∙◌, ◌-◌, take, drop}
use Rattle.tpcc_storage.proofs.Run.{lines_between_are}
use Rattle.tpcc_storage.proofs.by_district.runs.lines_between.Goals as goal

pub returns : goal.returns
returns c =
    (λ i. take (c.span_of-from.ensures.end i - c.span_of-from.ensures.start i) (drop (c.span_of-from.ensures.start i) c.args.rows.now))
    ∙ lines_between_are c.args.warehouse c.args.district c.args.first c.args.next c.args.rows.now c.requires.order c.requires.keyed
