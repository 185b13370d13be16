use Rattle.std.proofs.Common.{arith}
use Rattle.tpcc_storage.proofs.Stretch.{front_within}
use Rattle.tpcc_storage.proofs.Run.{line_before, before_later}
use Rattle.tpcc_storage.proofs.by_district.runs.span_of.Goals as goal

pub returns-clause-order : goal.returns-clause-order
returns-clause-order c =
    omega (arith, c.start_of-start.ensures.start, c.start_of-end.ensures.start, front_within (line_before c.args.warehouse c.args.district c.args.first) (line_before c.args.warehouse c.args.district c.args.next) (before_later c.args.warehouse c.args.district c.args.first c.args.next c.requires.order) c.args.rows.now)
