use Rattle.std.proofs.Common.{arith}
use Rattle.tpcc_storage.proofs.Stretch.{front_within}
use Rattle.tpcc_storage.proofs.Run.{line_before, line_not_after, before_not_after}
use Rattle.tpcc_storage.proofs.by_district.runs.place_of.Goals as goal

pub end_of-end-requires : goal.end_of-end-requires
end_of-end-requires c =
    let before = line_before c.args.warehouse c.args.district c.args.order in
    let not_after = line_not_after c.args.warehouse c.args.district c.args.order in
    record { start = omega (arith, c.start_of-start.ensures.start, front_within before not_after (before_not_after c.args.warehouse c.args.district c.args.order) c.args.rows.now) }

pub returns-clause-order : goal.returns-clause-order
returns-clause-order c =
    let before = line_before c.args.warehouse c.args.district c.args.order in
    let not_after = line_not_after c.args.warehouse c.args.district c.args.order in
    omega (arith, c.start_of-start.ensures.start, c.end_of-end.ensures.end, front_within before not_after (before_not_after c.args.warehouse c.args.district c.args.order) c.args.rows.now)
