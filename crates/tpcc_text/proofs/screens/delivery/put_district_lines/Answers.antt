use Rattle.std.proofs.Common.{rules, None, refl, arith}
use Rattle.tpcc_text.proofs.Districts.{one_more}
use Rattle.tpcc_text.proofs.screens.delivery.put_district_lines.Goals as goal

pub loop-order-init : goal.loop-order-init
loop-order-init c = search rules

pub loop-order-preserved : goal.loop-order-preserved
loop-order-preserved c = record {
  number = omega (arith, c.loop-order.invariant.number);
  shown = one_more _ _ _ c.args.orders.now c.loop-order.order-index c.loop-order.district None _ c.loop-order-test.true refl c.loop-order.invariant.number c.loop-order.invariant.shown c.in_ok-put_district_line.ensures;
}
