use Rattle.std.proofs.Common.{◌≡◌, ◌+◌, take}
use Rattle.tpcc_text.specs.Internal.Adding.{Adds}
use Rattle.tpcc_text.specs.Screens.{district_lines}
use Rattle.tpcc_text.proofs.screens.delivery.put_district_lines.Given as goal

abbrev pub invariant-loop-order : goal.invariant-loop-order
invariant-loop-order l = record {
  number : l.district ≡ 1 + l.order-index;
  shown : Adds l.fn.screen l.screen (district_lines 1 (take l.order-index l.orders));
}
