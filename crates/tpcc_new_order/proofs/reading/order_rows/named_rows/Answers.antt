use Rattle.tpcc_rows.specs.NewOrder.{order_refusal_by_input}
use Rattle.tpcc_laws.proofs.TurnKeeps.{first_none}
use Rattle.tpcc_new_order.proofs.Refusal.{copy_is_some, there, rows_there}
use Rattle.tpcc_new_order.proofs.reading.order_rows.named_rows.Goals as goal

pub unwrap-requires : goal.unwrap-requires
unwrap-requires c = there c.warehouse.result _ c.warehouse.ensures (rows_there c.args.tables.now.rows c.args.order.now c.requires.accepted).0

pub unwrap-requires-2 : goal.unwrap-requires-2
unwrap-requires-2 c = there c.district.result _ c.district.ensures (rows_there c.args.tables.now.rows c.args.order.now c.requires.accepted).1

pub unwrap-requires-3 : goal.unwrap-requires-3
unwrap-requires-3 c = there c.customer.result _ c.customer.ensures (rows_there c.args.tables.now.rows c.args.order.now c.requires.accepted).2

pub returns : goal.returns
returns c =
    record {
      accepted = first_none (order_refusal_by_input c.args.tables.now.rows c.args.order.now) _ c.requires.accepted;
      warehouse = copy_is_some _ _ c.unwrap.result c.warehouse.ensures c.unwrap.ensures;
      district = copy_is_some _ _ c.unwrap-2.result c.district.ensures c.unwrap-2.ensures;
      customer = copy_is_some _ _ c.unwrap-3.result c.customer.ensures c.unwrap-3.ensures;
    }
