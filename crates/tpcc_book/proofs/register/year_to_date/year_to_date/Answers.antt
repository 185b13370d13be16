use Rattle.std.proofs.Common.{arith}
use Rattle.std.proofs.lemmas.Int.{ints, to_z-of_z}
use Rattle.tpcc_book.proofs.YearToDate.{next_row, all_rows}
use Rattle.tpcc_book.proofs.register.year_to_date.year_to_date.Goals as goal

pub loop-position-preserved : goal.loop-position-preserved
loop-position-preserved c = record {
  summed = grind (arith, ints, to_z-of_z, next_row c.args.tables.now.rows.warehouses c.loop-position.position);
  low = omega (arith, ints);
  high = omega (arith, ints);
}

pub returns : goal.returns
returns c = grind (arith, ints, all_rows c.args.tables.now.rows)
