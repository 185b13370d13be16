use Rattle.std.proofs.Common.{arith}
use Rattle.tpcc_storage.proofs.Name.{named_from_start}
use Rattle.tpcc_storage.proofs.names.place_of.Goals as goal

pub end_of-end-requires : goal.end_of-end-requires
end_of-end-requires c = record { start = omega (arith, c.start_of-start.ensures.start, named_from_start c.args.warehouse c.args.district c.args.last.now c.args.names.now) }

pub returns-clause-order : goal.returns-clause-order
returns-clause-order c = omega (arith, c.start_of-start.ensures.start, c.end_of-end.ensures.end, named_from_start c.args.warehouse c.args.district c.args.last.now c.args.names.now)
