use Rattle.std.proofs.Common.{◌≡◌, take}
use Rattle.std.specs.Prelude.{fold}
use Rattle.tpcc_new_order.specs.Internal.Supplied.{numbers_of, numbers_after_line, IsNear}
use Rattle.tpcc_new_order.proofs.writing.supply.numbers_after.Given as goal

abbrev pub invariant-loop-line : goal.invariant-loop-line
invariant-loop-line l = record {
  numbers : l.numbers ≡ fold (numbers_after_line l.home l.row) (numbers_of l.row) (take l.line-index l.lines);
  near : IsNear l.line-index l.numbers;
}
