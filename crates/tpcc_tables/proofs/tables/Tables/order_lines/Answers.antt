use Rattle.std.proofs.Common.{ap, arith, length}
use Rattle.tpcc_tables.proofs.Line.{few_lines}
use Rattle.tpcc_tables.specs.Internal.View.{rows_of}
use Rattle.tpcc_tables.proofs.tables.Tables.order_lines.Goals as goal

pub copy_lines-requires : goal.copy_lines-requires
copy_lines-requires c = record { few = omega (arith, ap length c.lines_of.ensures, few_lines (rows_of c.self.inside) c.args.warehouse c.args.district c.args.order c.self.invariant.well_keyed) }

pub returns-clause-few : goal.returns-clause-few
returns-clause-few c = omega (arith, ap length c.copy_lines.ensures, ap length c.lines_of.ensures, few_lines (rows_of c.self.inside) c.args.warehouse c.args.district c.args.order c.self.invariant.well_keyed)
